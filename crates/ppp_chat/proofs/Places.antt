-- The abort strings, kept by the places of their steps.
use Rattle.std.proofs.Common.{ℕ, ◌≡◌, ◌<◌, zero, suc, slice_get, slice_index_or, Bool, not, Some, List, [], ◌∷◌, map, length, refl, sym, ap, arith}
use Rattle.std.specs.List.{position, prefix_len}
use Rattle.ppp_chat.specs.declared.step.Step.{Step}

prefix_len-map : (p : List ℕ → Bool) (f : ℕ → List ℕ) (xs : List ℕ) → prefix_len p (map f xs) ≡ prefix_len (λ x. p (f x)) xs
prefix_len-map p f [] = refl
prefix_len-map p f (x ∷ xs) = rw (prefix_len-map p f xs) refl

length-map-is : (f : ℕ → List ℕ) (xs : List ℕ) → length (map f xs) ≡ length xs
length-map-is f [] = refl
length-map-is f (x ∷ xs) = rw (length-map-is f xs) refl

pub position-map : (p : List ℕ → Bool) (f : ℕ → List ℕ) (xs : List ℕ) → position p (map f xs) ≡ position (λ x. p (f x)) xs
position-map p f xs = rw (prefix_len-map (λ t. not (p t)) f xs, length-map-is f xs) refl

-- what `get` has found
pub got-at : (steps : List Step) (place : ℕ) (step : Step) → place < length steps → ((d : Step) → step ≡ slice_index_or steps place d) → slice_get steps place ≡ Some step
got-at [] place step within is = absurd (omega arith)
got-at (first ∷ steps) zero step within is = ap (λ (x : Step). Some x) (sym (is step))
got-at (first ∷ steps) (suc place) step within is = got-at steps place step (omega arith) is
