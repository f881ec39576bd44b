-- Reading the parts of a word, from left to right.
use Rattle.std.proofs.Common.{ℕ, ◌≡◌, ◌+◌, ◌<◌, ◌≤◌, nat_lt, Bool, true, false, cond, not, length, take, drop, inl, inr, arith, Option, None, Some, List, [], ◌∷◌, ◌++◌, refl, sym, ap, ◌∙◌, append_assoc}
use Rattle.std.specs.List.{position, position_or_len, slice_split, onto_first}
use Rattle.std.proofs.lemmas.Bool.{cases_lt, lt-ltb}
use Rattle.std.proofs.lemmas.Bool.Decides.{nat_tests}
use Rattle.std.proofs.lemmas.List.Splits.{slice_split-cons_no, slice_split_first}
use Rattle.ppp_chat.specs.Words.{with_part, is_hyphen}
use Rattle.ppp_chat.specs.declared.piece.Piece.{Piece}

-- these parts, and then those that are still to be read
abbrev pub before_parts : List (List Piece) → Option (List (List Piece)) → Option (List (List Piece))
before_parts read None = None
before_parts read (Some parts) = Some (read ++ parts)

pub before-parts-more : (read : List (List Piece)) (part : List Piece) (rest : Option (List (List Piece)))
    → before_parts read (with_part (Some part) rest) ≡ before_parts (read ++ part ∷ []) rest
before-parts-more read part None = refl
before-parts-more read part (Some parts) = ap (λ (l : List (List Piece)). Some l) (sym (append_assoc read (part ∷ []) parts))

none-at : (b : Bool) (octet : ℕ) (octets : List ℕ) → is_hyphen octet ≡ b → position_or_len is_hyphen (octet ∷ octets) ≡ length (octet ∷ octets)
    → (position_or_len is_hyphen octets ≡ length octets → slice_split is_hyphen octets ≡ octets ∷ [])
    → slice_split is_hyphen (octet ∷ octets) ≡ (octet ∷ octets) ∷ []
none-at true octet octets e is more = absurd (omega (arith, rw e at is))
none-at false octet octets e is more =
    slice_split-cons_no is_hyphen octet octets e ∙ ap (λ (parts : List (List ℕ)). onto_first octet parts) (more (omega (arith, rw e at is)))

split-none : (octets : List ℕ) → position_or_len is_hyphen octets ≡ length octets → slice_split is_hyphen octets ≡ octets ∷ []
split-none [] is = refl
split-none (octet ∷ octets) is = none-at (is_hyphen octet) octet octets refl is (split-none octets)

within-at : (b : Bool) (n m : ℕ) → n ≤ m → cond (not b) (1 + n) 0 ≤ m + 1
within-at true n m less = omega arith
within-at false n m less = omega arith

within : (octets : List ℕ) → position_or_len is_hyphen octets ≤ length octets
within [] = omega arith
within (octet ∷ octets) = omega (arith, within-at (is_hyphen octet) (position_or_len is_hyphen octets) (length octets) (within octets))

-- the place of the first hyphen, by whether there is one
found-at : (octets : List ℕ) → position_or_len is_hyphen octets < length octets → position is_hyphen octets ≡ Some (position_or_len is_hyphen octets)
found-at octets below = ap (λ b. cond b (Some (position_or_len is_hyphen octets)) None) (lt-ltb (position_or_len is_hyphen octets) (length octets) below)

found-none : (octets : List ℕ) → length octets ≤ position_or_len is_hyphen octets → position is_hyphen octets ≡ None
found-none octets above =
    let no : nat_lt (position_or_len is_hyphen octets) (length octets) ≡ false = grind (arith, nat_tests) in
    ap (λ b. cond b (Some (position_or_len is_hyphen octets)) None) no

some_is_not_none : (n : ℕ) → Some n ≡ None → ⊥
some_is_not_none n e = absurd (cc (e))

some_same : (n m : ℕ) → Some n ≡ Some m → n ≡ m
some_same n m e = cc

-- a word without a hyphen is one part
pub parts-none : (octets : List ℕ) → position is_hyphen octets ≡ None → slice_split is_hyphen octets ≡ octets ∷ []
parts-none octets is =
    elim (cases_lt (position_or_len is_hyphen octets) (length octets)) [
      | inl below ↦ absurd (some_is_not_none (position_or_len is_hyphen octets) (sym (found-at octets below) ∙ is))
      | inr full ↦ split-none octets (omega (arith, within octets))
    ]

-- else its first part ends at the first hyphen
pub parts-some : (octets : List ℕ) (place : ℕ) → position is_hyphen octets ≡ Some place
    → slice_split is_hyphen octets ≡ take place octets ∷ slice_split is_hyphen (drop (place + 1) octets)
parts-some octets place is =
    elim (cases_lt (position_or_len is_hyphen octets) (length octets)) [
      | inl below ↦
          let same : position_or_len is_hyphen octets ≡ place = some_same (position_or_len is_hyphen octets) place (sym (found-at octets below) ∙ is) in
          rw (← same) (slice_split_first is_hyphen octets 0 below)
      | inr full ↦ absurd (some_is_not_none place (sym is ∙ found-none octets full))
    ]
