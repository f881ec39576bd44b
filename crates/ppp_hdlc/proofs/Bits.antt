-- Numbers as lists of bits, and their sums.
use Rattle.std.proofs.Common.{◌≡◌, ℕ, zero, suc, ◌+◌, ◌*◌, ◌/◌, ◌%◌, ◌^◌, ◌<◌, ◌≤◌, ◌==◌, ◌⊎◌, Bool, true, false, not, cond, List, [], ◌∷◌, ◌++◌, length, map, replicate, refl, sym, ap, arith, inl, inr, lit<}
use Rattle.std.specs.Prelude.{bit_xor}
use Rattle.std.proofs.Math.Nat.{pow-succ'}
use Rattle.std.proofs.lemmas.Nat.{xor_shr, xor_mod}
use Rattle.ppp_hdlc.specs.Residue.{bits, number, xor, plus}

pub bits-suc : (k n : ℕ) → bits (suc k) n ≡ (n % 2 == 1) ∷ bits k (n / 2)
unfolding bits
bits-suc k n = refl

pub bits-zero : (n : ℕ) → bits 0 n ≡ []
unfolding bits
bits-zero n = refl

pub length-bits : (k n : ℕ) → length (bits k n) ≡ k
length-bits zero n = rw bits-zero refl
length-bits (suc k) n = rw bits-suc (ap suc (length-bits k (n / 2)))

half_below : (k n : ℕ) → n < 2 ^ suc k → n / 2 < 2 ^ k
half_below k n below = omega (arith, pow-succ' 2 k)

-- a number with room for one more bit has a 0 there
pub bits-more : (k n : ℕ) → n < 2 ^ k → bits (suc k) n ≡ bits k n ++ false ∷ []
bits-more zero n below = let none : n ≡ 0 = omega arith in rw (none, bits-suc 0 0, bits-zero 0) refl
bits-more (suc k) n below = rw (bits-suc (suc k) n, bits-suc k n) (ap (λ l. (n % 2 == 1) ∷ l) (bits-more k (n / 2) (half_below k n below)))

pub number-nil : number [] ≡ 0
unfolding number
number-nil = refl

pub number-cons : (b : Bool) (bs : List Bool) → number (b ∷ bs) ≡ cond b 1 0 + 2 * number bs
unfolding number
number-cons b bs = refl

low_bit : (n : ℕ) → cond (n % 2 == 1) 1 0 ≡ n % 2
low_bit n = elim (two n) [ inl none ↦ rw none refl | inr one ↦ rw one refl ]
  where
    two : (n : ℕ) → (n % 2 ≡ 0) ⊎ (n % 2 ≡ 1)
    two n = grind arith

pub number-bits : (k n : ℕ) → n < 2 ^ k → number (bits k n) ≡ n
number-bits zero n below = rw (bits-zero, number-nil) (omega arith)
number-bits (suc k) n below = rw (bits-suc k n, number-cons, number-bits k (n / 2) (half_below k n below), low_bit n) (omega arith)

pub plus-nil : (ys : List Bool) → plus [] ys ≡ []
unfolding plus
plus-nil ys = refl

pub plus-nil_right : (xs : List Bool) → plus xs [] ≡ []
unfolding plus
plus-nil_right [] = refl
plus-nil_right (x ∷ xs) = refl

pub plus-cons : (x y : Bool) (xs ys : List Bool) → plus (x ∷ xs) (y ∷ ys) ≡ xor x y ∷ plus xs ys
unfolding plus
plus-cons x y xs ys = refl

-- the sum of two numbers' bits is that of their xor
pub low_xor : (a b : ℕ) → xor (a % 2 == 1) (b % 2 == 1) ≡ (bit_xor a b % 2 == 1)
low_xor a b =
    rw (xor_mod a b 1)
    (elim (two a) [
      | inl a0 ↦ elim (two b) [ inl b0 ↦ rw (a0, b0) refl | inr b1 ↦ rw (a0, b1) refl ]
      | inr a1 ↦ elim (two b) [ inl b0 ↦ rw (a1, b0) refl | inr b1 ↦ rw (a1, b1) refl ]
    ])
  where
    two : (n : ℕ) → (n % 2 ≡ 0) ⊎ (n % 2 ≡ 1)
    two n = grind arith

pub plus-bits : (k a b : ℕ) → plus (bits k a) (bits k b) ≡ bits k (bit_xor a b)
plus-bits zero a b = rw (bits-zero a, bits-zero (bit_xor a b)) (plus-nil (bits 0 b))
plus-bits (suc k) a b =
    rw (bits-suc k a, bits-suc k b, bits-suc k (bit_xor a b), plus-cons, low_xor a b, plus-bits k (a / 2) (b / 2))
    (ap (λ n. (bit_xor a b % 2 == 1) ∷ bits k n) (sym (xor_shr a b 1)))

pub xor_false : (b : Bool) → xor b false ≡ b
xor_false true = refl
xor_false false = refl

pub plus-zeros : (xs : List Bool) (n : ℕ) → length xs ≤ n → plus xs (replicate n false) ≡ xs
plus-zeros [] n short = plus-nil (replicate n false)
plus-zeros (x ∷ xs) zero short = absurd (omega arith)
plus-zeros (x ∷ xs) (suc n) short = rw (plus-cons x false xs (replicate n false), xor_false x, plus-zeros xs n (omega arith)) refl

pub plus-none : (n : ℕ) (xs : List Bool) → length xs ≤ n → plus (replicate n false) xs ≡ xs
plus-none zero [] short = plus-nil_right (replicate 0 false)
plus-none zero (x ∷ xs) short = absurd (omega arith)
plus-none (suc n) [] short = plus-nil_right (replicate (suc n) false)
plus-none (suc n) (x ∷ xs) short = rw (plus-cons false x (replicate n false) xs, plus-none n xs (omega arith)) refl

pub plus-ones : (n : ℕ) (xs : List Bool) → length xs ≤ n → plus (replicate n true) xs ≡ map not xs
plus-ones zero [] short = plus-nil_right (replicate 0 true)
plus-ones zero (x ∷ xs) short = absurd (omega arith)
plus-ones (suc n) [] short = plus-nil_right (replicate (suc n) true)
plus-ones (suc n) (x ∷ xs) short = rw (plus-cons true x (replicate n true) xs, plus-ones n xs (omega arith)) refl

pub plus-append : (xs ys us vs : List Bool) → length xs ≡ length ys → plus (xs ++ us) (ys ++ vs) ≡ plus xs ys ++ plus us vs
plus-append [] [] us vs same = rw (plus-nil []) refl
plus-append [] (y ∷ ys) us vs same = absurd (omega arith)
plus-append (x ∷ xs) [] us vs same = absurd (omega arith)
plus-append (x ∷ xs) (y ∷ ys) us vs same =
    rw (plus-cons x y (xs ++ us) (ys ++ vs), plus-cons x y xs ys) (ap (λ l. xor x y ∷ l) (plus-append xs ys us vs (omega arith)))

xor-swap : (x y z : Bool) → xor (xor x y) z ≡ xor (xor x z) y
xor-swap true true true = refl
xor-swap true true false = refl
xor-swap true false true = refl
xor-swap true false false = refl
xor-swap false true true = refl
xor-swap false true false = refl
xor-swap false false true = refl
xor-swap false false false = refl

pub plus-swap : (xs ys zs : List Bool) → plus (plus xs ys) zs ≡ plus (plus xs zs) ys
plus-swap [] ys zs = rw (plus-nil ys, plus-nil zs, plus-nil ys) refl
plus-swap (x ∷ xs) [] [] = refl
plus-swap (x ∷ xs) [] (z ∷ zs) = rw (plus-nil_right (x ∷ xs), plus-nil (z ∷ zs), plus-cons x z xs zs, plus-nil_right (xor x z ∷ plus xs zs)) refl
plus-swap (x ∷ xs) (y ∷ ys) [] = rw (plus-nil_right (x ∷ xs), plus-nil (y ∷ ys), plus-cons x y xs ys, plus-nil_right (xor x y ∷ plus xs ys)) refl
plus-swap (x ∷ xs) (y ∷ ys) (z ∷ zs) =
    rw (plus-cons x y xs ys, plus-cons x z xs zs, plus-cons (xor x y) z (plus xs ys) zs, plus-cons (xor x z) y (plus xs zs) ys, xor-swap x y z) (ap (λ l. xor (xor x z) y ∷ l) (plus-swap xs ys zs))

pub length-plus : (xs ys : List Bool) → length xs ≡ length ys → length (plus xs ys) ≡ length xs
length-plus [] ys same = ap length (plus-nil ys)
length-plus (x ∷ xs) [] same = absurd (omega arith)
length-plus (x ∷ xs) (y ∷ ys) same = rw (plus-cons x y xs ys) (ap suc (length-plus xs ys (omega arith)))

-- the bits of the number of a list of bits
odd : (b : Bool) (n : ℕ) → ((cond b 1 0 + 2 * n) % 2 == 1) ≡ b
odd true n = let e : (1 + 2 * n) % 2 ≡ 1 = omega arith in rw e refl
odd false n = let e : (0 + 2 * n) % 2 ≡ 0 = omega arith in rw e refl

halved : (b : Bool) (n : ℕ) → (cond b 1 0 + 2 * n) / 2 ≡ n
halved true n = omega arith
halved false n = omega arith

pub bits-number : (bs : List Bool) (k : ℕ) → length bs ≡ k → bits k (number bs) ≡ bs
bits-number [] zero same = bits-zero (number [])
bits-number [] (suc k) same = absurd (omega arith)
bits-number (b ∷ bs) zero same = absurd (omega arith)
bits-number (b ∷ bs) (suc k) same =
    rw (number-cons b bs, bits-suc k (cond b 1 0 + 2 * number bs), odd b (number bs), halved b (number bs), bits-number bs k (omega arith)) refl

pub number-below : (bs : List Bool) (k : ℕ) → length bs ≡ k → number bs < 2 ^ k
number-below [] zero same = rw number-nil (lit< tt)
number-below [] (suc k) same = absurd (omega arith)
number-below (b ∷ bs) zero same = absurd (omega arith)
number-below (b ∷ bs) (suc k) same =
    let below = number-below bs k (omega arith) in
    rw (number-cons b bs) (elim b as (λ v. cond v 1 0 + 2 * number bs < 2 ^ suc k) [ true ↦ omega (arith, below, pow-succ' 2 k) | false ↦ omega (arith, below, pow-succ' 2 k) ])
