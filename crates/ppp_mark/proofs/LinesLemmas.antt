-- The lines of a text, found from the front, and words without a newline.
use Rattle.std.proofs.Common.{◌≡◌, ℕ, ◌<◌, ◌≤◌, ◌-◌, ◌^◌, zero, suc, List, [], ◌∷◌, ◌++◌, length, take, drop, get_or, refl, sym, ap, ap₂, subst, ◌∙◌, arith, inl, inr, Bool, true, false, cond, decimal}
use Rattle.std.specs.Char.{digit_value}
use Rattle.std.specs.Str.Parse.{AllDigits}
use Rattle.std.proofs.lemmas.Fmt.{decimal_is_IsNumeral}
use Rattle.std.proofs.lemmas.List.{length-drop}
use Rattle.std.proofs.Math.Seq.{take-length}
use Rattle.std.proofs.Math.Dec.{eqb}
use Rattle.std.proofs.lemmas.Bool.Decides.{eqb_tells}
use Rattle.ppp_mark.specs.Lines.{lines_of, onto_first}

-- no octet before place i is a newline
abbrev pub NoneBelow : List ℕ → ℕ → Type 0
NoneBelow xs i = (k : ℕ) → k < i → get_or xs k 0 ≡ 10 → ⊥

not_newline : (b : ℕ) → (b ≡ 10 → ⊥) → eqb b 10 ≡ false
not_newline b h = elim (eqb_tells b 10) [ inl p ↦ absurd (h p.1) | inr p ↦ p.0 ]

-- a first line that ends at place i
pub line_ends : (xs : List ℕ) (i : ℕ) → i < length xs → NoneBelow xs i → get_or xs i 0 ≡ 10 → lines_of xs ≡ take i xs ∷ lines_of (drop (suc i) xs)
line_ends [] i short none is = absurd (omega arith)
line_ends (b ∷ bs) zero short none is = rw is refl
line_ends (b ∷ bs) (suc i) short none is =
    let other : eqb b 10 ≡ false = not_newline b (none 0 (omega arith)) in
    let rest : lines_of bs ≡ take i bs ∷ lines_of (drop (suc i) bs) = line_ends bs i (omega arith) (λ k h. none (suc k) (omega arith)) is in
    rw (other, rest) refl

-- a text without a newline is one line
pub line_is_all : (xs : List ℕ) → 0 < length xs → NoneBelow xs (length xs) → lines_of xs ≡ xs ∷ []
line_is_all [] some none = absurd (omega arith)
line_is_all (b ∷ []) some none = let other : eqb b 10 ≡ false = not_newline b (none 0 (omega arith)) in rw other refl
line_is_all (b ∷ c ∷ bs) some none =
    let other : eqb b 10 ≡ false = not_newline b (none 0 (omega arith)) in
    let rest : lines_of (c ∷ bs) ≡ (c ∷ bs) ∷ [] = line_is_all (c ∷ bs) (omega arith) (λ k h. none (suc k) (omega arith)) in
    rw (other, rest) refl

-- none of the octets is this one
abbrev pub is_free : ℕ → List ℕ → Bool
is_free octet [] = true
is_free octet (b ∷ bs) = cond (eqb b octet) false (is_free octet bs)

pub free_append : (octet : ℕ) (xs ys : List ℕ) → is_free octet xs ≡ true → is_free octet ys ≡ true → is_free octet (xs ++ ys) ≡ true
free_append octet [] ys front back = back
free_append octet (b ∷ bs) ys front back = elim (eqb_tells b octet) [
  | inl p ↦ let wrong = rw p.0 at front in cc
  | inr p ↦ rw p.0 (free_append octet bs ys (rw p.0 at front) back)
]

digits_free : (octet : ℕ) → (digit_value octet < 10 → ⊥) → (ds : List ℕ) → AllDigits 10 ds → is_free octet ds ≡ true
digits_free octet other [] digits = refl
digits_free octet other (d ∷ ds) digits = elim (eqb_tells d octet) [
  | inl p ↦ absurd (other (subst (λ x. digit_value x < 10) p.1 digits.0))
  | inr p ↦ rw p.0 (digits_free octet other ds digits.1)
]

no_newline : digit_value 10 < 10 → ⊥
no_newline h = omega arith

no_space : digit_value 32 < 10 → ⊥
no_space h = omega arith

-- A number has no newline and no space.
pub number_line : (n : ℕ) → n < 2 ^ 64 → is_free 10 (decimal n) ≡ true
number_line n small = digits_free 10 no_newline (decimal n) (decimal_is_IsNumeral n small).0.1

pub number_word : (n : ℕ) → n < 2 ^ 64 → is_free 32 (decimal n) ≡ true
number_word n small = digits_free 32 no_space (decimal n) (decimal_is_IsNumeral n small).0.1

-- some octets, and none of them is a newline
abbrev pub is_word : List ℕ → Bool
is_word [] = false
is_word (b ∷ bs) = is_free 10 (b ∷ bs)

pub line_then : (line rest : List ℕ) → is_free 10 line ≡ true → lines_of (line ++ 10 ∷ rest) ≡ line ∷ lines_of rest
line_then [] rest clean = refl
line_then (b ∷ bs) rest clean = elim (eqb_tells b 10) [
  | inl p ↦ let wrong = rw p.0 at clean in cc
  | inr p ↦ rw (p.0, line_then bs rest (rw p.0 at clean)) refl
]

pub line_alone : (line : List ℕ) → is_word line ≡ true → lines_of line ≡ line ∷ []
line_alone [] word = cc
line_alone (b ∷ []) word = elim (eqb_tells b 10) [
  | inl p ↦ let wrong = rw p.0 at word in cc
  | inr p ↦ rw p.0 refl
]
line_alone (b ∷ c ∷ bs) word = elim (eqb_tells b 10) [
  | inl p ↦ let wrong = rw p.0 at word in cc
  | inr p ↦ rw (p.0, line_alone (c ∷ bs) (rw p.0 at word)) refl
]

pub word_is_clean : (line : List ℕ) → is_word line ≡ true → is_free 10 line ≡ true
word_is_clean [] word = refl
word_is_clean (b ∷ bs) word = word

-- octets before the first one of a kind, in two spellings
pub split_one : (octet : ℕ) (xs ys us vs : List ℕ) → is_free octet xs ≡ true → is_free octet ys ≡ true → xs ++ octet ∷ us ≡ ys ++ octet ∷ vs → (xs ≡ ys) × (us ≡ vs)
split_one octet [] [] us vs fx fy e = (refl, ap (drop 1) e)
split_one octet [] (y ∷ ys) us vs fx fy e =
    let head : octet ≡ y = ap (λ l. get_or l 0 0) e in
    elim (eqb_tells y octet) [
      | inl p ↦ let wrong = rw p.0 at fy in cc
      | inr p ↦ absurd (p.1 (sym head))
    ]
split_one octet (x ∷ xs) [] us vs fx fy e =
    let head : x ≡ octet = ap (λ l. get_or l 0 0) e in
    elim (eqb_tells x octet) [
      | inl p ↦ let wrong = rw p.0 at fx in cc
      | inr p ↦ absurd (p.1 head)
    ]
split_one octet (x ∷ xs) (y ∷ ys) us vs fx fy e =
    let head : x ≡ y = ap (λ l. get_or l 0 0) e in
    elim (eqb_tells x octet) [
      | inl p ↦ let wrong = rw p.0 at fx in cc
      | inr p ↦ elim (eqb_tells y octet) [
        | inl q ↦ let wrong = rw q.0 at fy in cc
        | inr q ↦
            let rest = split_one octet xs ys us vs (rw p.0 at fx) (rw q.0 at fy) (ap (drop 1) e) in
            (ap₂ (λ z zs. z ∷ zs) head rest.0, rest.1)
      ]
    ]

-- where an octet stands first
pub place_is : (octet : ℕ) (front back : List ℕ) (i : ℕ) → is_free octet front ≡ true → ((k : ℕ) → k < i → get_or (front ++ octet ∷ back) k 0 ≡ octet → ⊥) → i ≤ length (front ++ octet ∷ back) → (i < length (front ++ octet ∷ back) → get_or (front ++ octet ∷ back) i 0 ≡ octet) → i ≡ length front
place_is octet [] back zero free none within found = refl
place_is octet [] back (suc i) free none within found = absurd (none 0 (omega arith) refl)
place_is octet (b ∷ bs) back zero free none within found =
    elim (eqb_tells b octet) [
      | inl p ↦ let wrong = rw p.0 at free in cc
      | inr p ↦ absurd (p.1 (found (omega arith)))
    ]
place_is octet (b ∷ bs) back (suc i) free none within found =
    elim (eqb_tells b octet) [
      | inl p ↦ let wrong = rw p.0 at free in cc
      | inr p ↦ ap suc (place_is octet bs back i (rw p.0 at free) (λ k h is. none (suc k) (omega arith) is) (omega arith) (λ h. found (omega arith)))
    ]

-- what follows a place
pub rest_is : (k : ℕ) (xs : List ℕ) → take (length xs - k) (drop k xs) ≡ drop k xs
rest_is k xs = ap (λ n. take n (drop k xs)) (sym (length-drop k xs)) ∙ take-length (drop k xs)

onto_first_some : (b : ℕ) (lines : List (List ℕ)) → onto_first b lines ≡ [] → ⊥
onto_first_some b [] e = cc
onto_first_some b (line ∷ lines) e = cc

pub no_lines : (xs : List ℕ) → lines_of xs ≡ [] → xs ≡ []
no_lines [] e = refl
no_lines (b ∷ bs) e = elim (eqb_tells b 10) [
  | inl p ↦ let wrong = rw p.0 at e in cc
  | inr p ↦ absurd (onto_first_some b (lines_of bs) (rw p.0 at e))
]
