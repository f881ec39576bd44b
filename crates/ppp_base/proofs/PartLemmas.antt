-- The parts of octets between separators.
use Rattle.std.proofs.Common.{◌≡◌, ℕ, ◌<◌, zero, suc, Bool, true, false, cond, List, [], ◌∷◌, length, take, drop, get_or, None, refl, arith, inl, inr}
use Rattle.std.specs.Prelude.{◌==◌}
use Rattle.std.specs.List.{slice_split, onto_first}
use Rattle.std.proofs.lemmas.Bool.Decides.{eqb_tells}
use Rattle.ppp_base.specs.Numbers.{four_octets}

-- Octets have at least one part, so that behind four parts they are a fifth.
pub a_fifth_part : (s : ℕ) (a b c d xs : List ℕ) → four_octets (a ∷ b ∷ c ∷ d ∷ slice_split (λ octet. octet == s) xs) ≡ None
a_fifth_part s a b c d [] = refl
a_fifth_part s a b c d (x ∷ xs) = go (x == s) (slice_split (λ octet. octet == s) xs)
  where
    go : (test : Bool) (rest : List (List ℕ)) → four_octets (a ∷ b ∷ c ∷ d ∷ cond test ([] ∷ rest) (onto_first x rest)) ≡ None
    go true rest = refl
    go false [] = refl
    go false (part ∷ parts) = refl

-- no octet before place i is the separator
abbrev pub NoneBelow : ℕ → List ℕ → ℕ → Type 0
NoneBelow s xs i = (k : ℕ) → k < i → get_or xs k 0 ≡ s → ⊥

no_separator : (s b : ℕ) → (b ≡ s → ⊥) → (b == s) ≡ false
no_separator s b h = elim (eqb_tells b s) [ inl p ↦ absurd (h p.1) | inr p ↦ p.0 ]

a_separator : (s b : ℕ) → b ≡ s → (b == s) ≡ true
a_separator s b h = elim (eqb_tells b s) [ inl p ↦ p.0 | inr p ↦ absurd (p.1 h) ]

-- a first part that ends at place i
pub part_ends : (s : ℕ) (xs : List ℕ) (i : ℕ) → i < length xs → NoneBelow s xs i → get_or xs i 0 ≡ s →
    slice_split (λ octet. octet == s) xs ≡ take i xs ∷ slice_split (λ octet. octet == s) (drop (suc i) xs)
part_ends s [] i short none is = absurd (omega arith)
part_ends s (b ∷ bs) zero short none is = let same : (b == s) ≡ true = a_separator s b is in rw same refl
part_ends s (b ∷ bs) (suc i) short none is =
    let other : (b == s) ≡ false = no_separator s b (none 0 (omega arith)) in
    let rest : slice_split (λ octet. octet == s) bs ≡ take i bs ∷ slice_split (λ octet. octet == s) (drop (suc i) bs) = part_ends s bs i (omega arith) (λ k h. none (suc k) (omega arith)) is in
    rw (other, rest) refl

-- octets without the separator are one part
pub part_is_all : (s : ℕ) (xs : List ℕ) → NoneBelow s xs (length xs) → slice_split (λ octet. octet == s) xs ≡ xs ∷ []
part_is_all s [] none = refl
part_is_all s (b ∷ bs) none =
    let other : (b == s) ≡ false = no_separator s b (none 0 (omega arith)) in
    let rest : slice_split (λ octet. octet == s) bs ≡ bs ∷ [] = part_is_all s bs (λ k h. none (suc k) (omega arith)) in
    rw (other, rest) refl
