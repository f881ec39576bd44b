-- What is taken of a ring is its first.
use Rattle.std.proofs.Common.{◌≡◌, Option, None, Some, List, [], ◌∷◌, refl}
use Rattle.std.specs.Prelude.{MatchOption, IfNone, drop, slice_get}

pub first_of : {X : Type 0} (result : Option X) (old new : List X) → result ≡ slice_get old 0 → new ≡ drop 1 old
    → MatchOption result (old ≡ []) (λ first. old ≡ first ∷ new) × IfNone result (new ≡ [])
first_of None [] new e f = (refl, f)
first_of (Some x) [] new e f = absurd (let g : Some x ≡ None = e in cc)
first_of None (y ∷ old) new e f = absurd (let g : None ≡ Some y = e in cc)
first_of (Some x) (y ∷ old) new e f = let g : Some x ≡ Some y = e in let same : x ≡ y = cc in (rw (same, f) refl, tt)
