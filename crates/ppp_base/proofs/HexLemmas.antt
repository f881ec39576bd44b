-- Digits read two by two, as far as the octet number `i`.
use Rattle.std.proofs.Common.{◌≡◌, ℕ, ◌+◌, ◌*◌, ◌/◌, ◌%◌, ◌<◌, ◌≤◌, ◌⊎◌, inl, inr, List, [], ◌∷◌, ◌++◌, length, slice_index, sym, ap, subst, arith, ◌∙◌}
use Rattle.std.proofs.lemmas.Bool.{cases_lt}
use Rattle.std.proofs.lemmas.Grind.{common_steps}
use Rattle.std.proofs.lemmas.List.{get_or_append_left}
use Rattle.std.proofs.Math.Seq.{get_or-append_seam}
use Rattle.std.specs.Char.{digit_value}
use Rattle.ppp_base.specs.Hex.{IsHexText, IsHexOf}

pub record IsReadTo (text octets : List ℕ) (i : ℕ) : Type 0 where
  pub size : length octets ≡ i
  pub digits : (k : ℕ) → k < 2 * i → digit_value (slice_index text k) < 16
  pub values : (k : ℕ) → k < i → slice_index octets k ≡ 16 * digit_value (slice_index text (2 * k)) + digit_value (slice_index text (2 * k + 1))

-- nothing is read at first
pub read_none : (text : List ℕ) → IsReadTo text [] 0
read_none text = record {
  size = grind (arith, common_steps);
  digits = λ k h. absurd (omega arith);
  values = λ k h. absurd (omega arith);
}

-- a number below n + 1 is below n, or n
up_to : (P : ℕ → Type 0) (n k : ℕ) → ((j : ℕ) → j < n → P j) → P n → k < n + 1 → P k
up_to P n k below last h = join (cases_lt k n)
  where
    join : (k < n) ⊎ (n ≤ k) → P k
    join (inl lt) = below k lt
    join (inr ge) = let e : n ≡ k = omega (arith, ge, h) in subst P e last

-- one more octet
pub read_one : (text octets : List ℕ) (i octet : ℕ) → IsReadTo text octets i → digit_value (slice_index text (2 * i)) < 16 → digit_value (slice_index text (2 * i + 1)) < 16 → octet ≡ 16 * digit_value (slice_index text (2 * i)) + digit_value (slice_index text (2 * i + 1)) → IsReadTo text (octets ++ octet ∷ []) (i + 1)
read_one text octets i octet h high low is = record {
  size = grind (arith, common_steps, h.size);
  digits = λ k below. up_to (λ j. digit_value (slice_index text j) < 16) (2 * i + 1) k (λ j under. up_to (λ m. digit_value (slice_index text m) < 16) (2 * i) j h.digits high under) low (omega (arith, below));
  values = λ k below. up_to (λ j. slice_index (octets ++ octet ∷ []) j ≡ 16 * digit_value (slice_index text (2 * j)) + digit_value (slice_index text (2 * j + 1))) i k (λ j under. get_or_append_left octets (octet ∷ []) 0 j (omega (arith, h.size, under)) ∙ h.values j under) (ap (slice_index (octets ++ octet ∷ [])) (sym h.size) ∙ get_or-append_seam octets octet [] 0 ∙ is) below;
}

-- all octets are read
pub read_text : (text octets : List ℕ) → IsReadTo text octets (length text / 2) → length text % 2 ≡ 0 → IsHexText text
read_text text octets h even = record {
  even = even;
  digits = λ k below. h.digits k (omega (arith, below, even));
}

pub read_octets : (text octets : List ℕ) → IsReadTo text octets (length text / 2) → length text % 2 ≡ 0 → IsHexOf text octets
read_octets text octets h even = record {
  size = omega (arith, h.size, even);
  values = λ k below. h.values k (omega (arith, h.size, below));
}

-- two octets that are no digits stand in no text of digits
pub no_digits : (text : List ℕ) (i : ℕ) → i < length text / 2 → (digit_value (slice_index text (2 * i)) < 16 → digit_value (slice_index text (2 * i + 1)) < 16 → ⊥) → IsHexText text → ⊥
no_digits text i below bad h = bad (h.digits (2 * i) (omega (arith, below))) (h.digits (2 * i + 1) (omega (arith, below)))
