-- The long division gives a quotient and a remainder.
use Rattle.std.proofs.Common.{◌≡◌, ℕ, suc, ◌+◌, Bool, true, false, cond, List, [], ◌∷◌, ◌++◌, length, replicate, refl, sym, ap, ◌∙◌, arith, length-append, append_assoc, append-nil}
use Rattle.std.specs.Prelude.{fold}
use Rattle.std.proofs.lemmas.List.{length-replicate}
use Rattle.ppp_hdlc.specs.Residue.{plus, xor, zeros, divisor, bring_down, remainder}
use Rattle.ppp_hdlc.specs.Quotient.{scaled, times_divisor, IsDivision}
use Rattle.ppp_hdlc.proofs.Bits.{plus-nil, plus-nil_right, plus-cons, plus-none, plus-append, length-plus}
use Rattle.ppp_hdlc.proofs.Division.{bring_down-cons, length-divisor, zeros-is}

xor-assoc : (x y z : Bool) → xor (xor x y) z ≡ xor x (xor y z)
xor-assoc true true true = refl
xor-assoc true true false = refl
xor-assoc true false true = refl
xor-assoc true false false = refl
xor-assoc false y z = refl

plus-assoc : (xs ys zs : List Bool) → plus (plus xs ys) zs ≡ plus xs (plus ys zs)
plus-assoc [] ys zs = rw (plus-nil ys, plus-nil zs, plus-nil (plus ys zs)) refl
plus-assoc (x ∷ xs) [] zs = rw (plus-nil_right (x ∷ xs), plus-nil zs, plus-nil_right (x ∷ xs)) refl
plus-assoc (x ∷ xs) (y ∷ ys) [] = rw (plus-cons x y xs ys, plus-nil_right (xor x y ∷ plus xs ys), plus-nil_right (y ∷ ys), plus-nil_right (x ∷ xs)) refl
plus-assoc (x ∷ xs) (y ∷ ys) (z ∷ zs) =
    rw (plus-cons x y xs ys, plus-cons (xor x y) z (plus xs ys) zs, plus-cons y z ys zs, plus-cons x (xor y z) xs (plus ys zs), xor-assoc x y z)
    (ap (λ l. xor x (xor y z) ∷ l) (plus-assoc xs ys zs))

xor_self : (b : Bool) → xor b b ≡ false
xor_self true = refl
xor_self false = refl

plus-self : (xs : List Bool) → plus xs xs ≡ replicate (length xs) false
plus-self [] = plus-nil []
plus-self (x ∷ xs) = plus-cons x x xs xs ∙ rw (xor_self x, plus-self xs) refl

-- what is taken away twice is there again
plus-back : (xs ds : List Bool) → length xs ≡ length ds → plus ds (plus xs ds) ≡ xs
plus-back [] [] same = plus-nil (plus [] [])
plus-back [] (d ∷ ds) same = absurd (omega arith)
plus-back (x ∷ xs) [] same = absurd (omega arith)
plus-back (x ∷ xs) (d ∷ ds) same = rw (plus-cons x d xs ds, plus-cons d (xor x d) ds (plus xs ds), back x d) (ap (λ l. x ∷ l) (plus-back xs ds (omega arith)))
  where
    back : (x d : Bool) → xor d (xor x d) ≡ x
    back true true = refl
    back true false = refl
    back false true = refl
    back false false = refl

scaled-true : (k : ℕ) → scaled true k ≡ true ∷ (divisor ++ replicate k false)
unfolding scaled
scaled-true k = refl

scaled-false : (k : ℕ) → scaled false k ≡ false ∷ (zeros ++ replicate k false)
unfolding scaled
scaled-false k = refl

-- a step of the division takes away the divisor, scaled by the highest bit
step : (t u : Bool) (r d : List Bool) → length r ≡ 15 → (t ∷ r) ++ u ∷ d ≡ plus (scaled t (length d)) (false ∷ (bring_down (t ∷ r) u ++ d))
step true u r d wide =
    let sixteen : length (r ++ u ∷ []) ≡ length divisor = length-append r (u ∷ []) ∙ omega (arith, length-divisor) in
    let same : length divisor ≡ length (plus (r ++ u ∷ []) divisor) = sym (length-plus (r ++ u ∷ []) divisor sixteen ∙ sixteen) in
    sym (rw (
      scaled-true (length d),
      bring_down-cons true r u,
      plus-cons true false (divisor ++ replicate (length d) false) (plus (r ++ u ∷ []) divisor ++ d),
      plus-append divisor (plus (r ++ u ∷ []) divisor) (replicate (length d) false) d same,
      plus-back (r ++ u ∷ []) divisor sixteen,
      plus-none (length d) d (omega arith),
    )
    (ap (λ l. true ∷ l) (append_assoc r (u ∷ []) d)))
step false u r d wide =
    let sixteen : length (r ++ u ∷ []) ≡ 16 = length-append r (u ∷ []) ∙ omega arith in
    let same : length (replicate 16 false) ≡ length (r ++ u ∷ []) = sym sixteen in
    sym (rw (
      scaled-false (length d),
      zeros-is,
      bring_down-cons false r u,
      plus-cons false false (replicate 16 false ++ replicate (length d) false) ((r ++ u ∷ []) ++ d),
      plus-append (replicate 16 false) (r ++ u ∷ []) (replicate (length d) false) d same,
      plus-none 16 (r ++ u ∷ []) (omega arith),
      plus-none (length d) d (omega arith),
    )
    (ap (λ l. false ∷ l) (append_assoc r (u ∷ []) d)))

times-nil : times_divisor [] ≡ zeros
unfolding times_divisor
times-nil = refl

times-cons : (t : Bool) (q : List Bool) → times_divisor (t ∷ q) ≡ plus (scaled t (length q)) (false ∷ times_divisor q)
unfolding times_divisor
times-cons t q = refl

length-down : (t u : Bool) (r : List Bool) → length r ≡ 15 → length (bring_down (t ∷ r) u) ≡ 16
length-down t u r wide =
    let sixteen : length (r ++ u ∷ []) ≡ 16 = length-append r (u ∷ []) ∙ omega arith in
    rw (bring_down-cons t r u)
    (elim t as (λ b. length (cond b (plus (r ++ u ∷ []) divisor) (r ++ u ∷ [])) ≡ 16) [ true ↦ length-plus (r ++ u ∷ []) divisor (sixteen ∙ sym length-divisor) ∙ sixteen | false ↦ sixteen ])

-- a quotient of what is left, and its rest
record Left (r d : List Bool) : Type 0 where
  quotient : List Bool
  as_long : length quotient ≡ length d
  lower : length (fold bring_down r d) ≡ 16
  sum : r ++ d ≡ plus (times_divisor quotient) (replicate (length d) false ++ fold bring_down r d)

left : (r d : List Bool) → length r ≡ 16 → Left r d
left r [] wide = record {
  quotient = [];
  as_long = refl;
  lower = wide;
  sum = append-nil r ∙ sym (ap (λ l. plus l r) (times-nil ∙ zeros-is) ∙ plus-none 16 r (omega arith));
}
left [] (u ∷ d) wide = absurd (omega arith)
left (t ∷ r) (u ∷ d) wide =
    let more : Left (bring_down (t ∷ r) u) d = left (bring_down (t ∷ r) u) d (length-down t u r (omega arith)) in
    record {
      quotient = t ∷ more.quotient;
      as_long = ap suc more.as_long;
      lower = more.lower;
      sum = step t u r d (omega arith)
          ∙ ap (λ l. plus (scaled t (length d)) (false ∷ l)) more.sum
          ∙ ap (λ l. plus (scaled t (length d)) l) (sym (plus-cons false false (times_divisor more.quotient) (replicate (length d) false ++ fold bring_down (bring_down (t ∷ r) u) d)))
          ∙ sym (plus-assoc (scaled t (length d)) (false ∷ times_divisor more.quotient) (false ∷ (replicate (length d) false ++ fold bring_down (bring_down (t ∷ r) u) d)))
          ∙ ap (λ k. plus (plus (scaled t k) (false ∷ times_divisor more.quotient)) (false ∷ (replicate (length d) false ++ fold bring_down (bring_down (t ∷ r) u) d))) (sym more.as_long)
          ∙ ap (λ l. plus l (false ∷ (replicate (length d) false ++ fold bring_down (bring_down (t ∷ r) u) d))) (sym (times-cons t more.quotient));
    }

pub division : (dividend : List Bool) → (quotient : List Bool) × IsDivision dividend quotient (remainder dividend)
unfolding remainder
division dividend =
    let l : Left zeros dividend = left zeros dividend (ap length zeros-is) in
    (l.quotient, record { as_long = l.as_long; is_lower = l.lower; is_sum = l.sum })

length-zeros : length zeros ≡ 16
length-zeros = ap length zeros-is

length-scaled : (t : Bool) (k : ℕ) → length (scaled t k) ≡ 17 + k
length-scaled true k =
    let others : length (divisor ++ replicate k false) ≡ 16 + k = length-append divisor (replicate k false) ∙ omega (arith, length-divisor, length-replicate k false) in
    ap length (scaled-true k) ∙ omega (arith, others)
length-scaled false k =
    let others : length (zeros ++ replicate k false) ≡ 16 + k = length-append zeros (replicate k false) ∙ omega (arith, length-zeros, length-replicate k false) in
    ap length (scaled-false k) ∙ omega (arith, others)

length-times : (q : List Bool) → length (times_divisor q) ≡ 16 + length q
length-times [] = ap length (times-nil ∙ zeros-is)
length-times (t ∷ q) =
    ap length (times-cons t q)
    ∙ length-plus (scaled t (length q)) (false ∷ times_divisor q) (length-scaled t (length q) ∙ omega (arith, length-times q))
    ∙ length-scaled t (length q)
    ∙ omega arith

-- what is added to two lists and gives one sum, was one list
plus-cancel : (ds xs ys : List Bool) → length xs ≡ length ds → length ys ≡ length ds → plus ds xs ≡ plus ds ys → xs ≡ ys
plus-cancel [] [] [] xs_long ys_long same = refl
plus-cancel [] (x ∷ xs) ys xs_long ys_long same = absurd (omega arith)
plus-cancel [] [] (y ∷ ys) xs_long ys_long same = absurd (omega arith)
plus-cancel (d ∷ ds) [] ys xs_long ys_long same = absurd (omega arith)
plus-cancel (d ∷ ds) (x ∷ xs) [] xs_long ys_long same = absurd (omega arith)
plus-cancel (d ∷ ds) (x ∷ xs) (y ∷ ys) xs_long ys_long same =
    let pair : xor d x ∷ plus ds xs ≡ xor d y ∷ plus ds ys = sym (plus-cons d x ds xs) ∙ same ∙ plus-cons d y ds ys in
    let first : xor d x ≡ xor d y = cc in
    let others : plus ds xs ≡ plus ds ys = cc in
    let head : x ≡ y = one d x y first in
    let tail : xs ≡ ys = plus-cancel ds xs ys (omega arith) (omega arith) others in
    rw (head, tail) refl
  where
    one : (d x y : Bool) → xor d x ≡ xor d y → x ≡ y
    one true true true same = refl
    one true true false same = absurd (cc)
    one true false true same = absurd (cc)
    one true false false same = refl
    one false x y same = same

-- the highest coefficient of a step's sum is that of the quotient
highest : (t h : Bool) (k : ℕ) (xs ys : List Bool) → plus (scaled t k) (false ∷ xs) ≡ plus (scaled h k) (false ∷ ys) → t ≡ h
highest true true k xs ys same = refl
highest false false k xs ys same = refl
highest true false k xs ys same =
    let one : plus (scaled true k) (false ∷ xs) ≡ true ∷ plus (divisor ++ replicate k false) xs = rw scaled-true (plus-cons true false (divisor ++ replicate k false) xs) in
    let none : plus (scaled false k) (false ∷ ys) ≡ false ∷ plus (zeros ++ replicate k false) ys = rw scaled-false (plus-cons false false (zeros ++ replicate k false) ys) in
    absurd (cc (one, none, same))
highest false true k xs ys same =
    let one : plus (scaled true k) (false ∷ ys) ≡ true ∷ plus (divisor ++ replicate k false) ys = rw scaled-true (plus-cons true false (divisor ++ replicate k false) ys) in
    let none : plus (scaled false k) (false ∷ xs) ≡ false ∷ plus (zeros ++ replicate k false) xs = rw scaled-false (plus-cons false false (zeros ++ replicate k false) xs) in
    absurd (cc (one, none, same))

-- the rest of what is left is what the long division leaves
rest-is : (r d q rest : List Bool) → length r ≡ 16 → length q ≡ length d → length rest ≡ 16
    → r ++ d ≡ plus (times_divisor q) (replicate (length d) false ++ rest) → rest ≡ fold bring_down r d
rest-is r [] [] rest wide even low sum =
    sym (plus-none 16 rest (omega arith)) ∙ sym (ap (λ l. plus l rest) (times-nil ∙ zeros-is)) ∙ sym sum ∙ append-nil r
rest-is r [] (h ∷ q) rest wide even low sum = absurd (omega arith)
rest-is [] (u ∷ d) q rest wide even low sum = absurd (omega arith)
rest-is (t ∷ r) (u ∷ d) [] rest wide even low sum = absurd (omega arith)
rest-is (t ∷ r) (u ∷ d) (h ∷ q) rest wide even low sum =
    let long : length q ≡ length d = omega arith in
    let ours : (t ∷ r) ++ u ∷ d ≡ plus (scaled t (length d)) (false ∷ (bring_down (t ∷ r) u ++ d)) = step t u r d (omega arith) in
    let theirs : (t ∷ r) ++ u ∷ d ≡ plus (scaled h (length d)) (false ∷ plus (times_divisor q) (replicate (length d) false ++ rest)) =
    sum
    ∙ ap (λ l. plus l (false ∷ (replicate (length d) false ++ rest))) (times-cons h q ∙ ap (λ k. plus (scaled h k) (false ∷ times_divisor q)) long)
    ∙ plus-assoc (scaled h (length d)) (false ∷ times_divisor q) (false ∷ (replicate (length d) false ++ rest))
    ∙ ap (λ l. plus (scaled h (length d)) l) (plus-cons false false (times_divisor q) (replicate (length d) false ++ rest)) in
    let both : plus (scaled t (length d)) (false ∷ (bring_down (t ∷ r) u ++ d)) ≡ plus (scaled h (length d)) (false ∷ plus (times_divisor q) (replicate (length d) false ++ rest)) = sym ours ∙ theirs in
    let same : t ≡ h = highest t h (length d) _ _ both in
    let moved : plus (scaled t (length d)) (false ∷ (bring_down (t ∷ r) u ++ d)) ≡ plus (scaled t (length d)) (false ∷ plus (times_divisor q) (replicate (length d) false ++ rest)) =
    both ∙ ap (λ b. plus (scaled b (length d)) (false ∷ plus (times_divisor q) (replicate (length d) false ++ rest))) (sym same) in
    let ours_long : length (bring_down (t ∷ r) u ++ d) ≡ 16 + length d = length-append (bring_down (t ∷ r) u) d ∙ omega (arith, length-down t u r (omega arith)) in
    let rest_long : length (replicate (length d) false ++ rest) ≡ 16 + length d = length-append (replicate (length d) false) rest ∙ omega (arith, length-replicate (length d) false) in
    let theirs_long : length (plus (times_divisor q) (replicate (length d) false ++ rest)) ≡ 16 + length d =
    length-plus (times_divisor q) (replicate (length d) false ++ rest) (length-times q ∙ omega (arith, rest_long)) ∙ length-times q ∙ omega arith in
    let pair : false ∷ (bring_down (t ∷ r) u ++ d) ≡ false ∷ plus (times_divisor q) (replicate (length d) false ++ rest) =
    plus-cancel (scaled t (length d)) _ _ (omega (arith, ours_long, length-scaled t (length d))) (omega (arith, theirs_long, length-scaled t (length d))) moved in
    let tails : bring_down (t ∷ r) u ++ d ≡ plus (times_divisor q) (replicate (length d) false ++ rest) = cc in
    rest-is (bring_down (t ∷ r) u) d q rest (length-down t u r (omega arith)) long low tails

pub only_rest : (dividend quotient rest : List Bool) → IsDivision dividend quotient rest → rest ≡ remainder dividend
unfolding remainder
only_rest dividend quotient rest is = rest-is zeros dividend quotient rest (ap length zeros-is) is.as_long is.is_lower is.is_sum

pub empty_rest : (quotient rest : List Bool) → IsDivision [] quotient rest → rest ≡ replicate 16 false
unfolding remainder
empty_rest quotient rest is = only_rest [] quotient rest is ∙ zeros-is
