-- What is so of every link stays so where one is set.
use Rattle.std.proofs.Common.{◌≡◌, ℕ, zero, suc, Option, None, Some, List, [], ◌∷◌, subst, sym, refl, ap, ◌∙◌}
use Rattle.std.specs.List.{AllByRecursion}
use Rattle.std.specs.Prelude.{IfSome, slice_get, slice_set}
use Rattle.std.proofs.lemmas.Option.{same_Some}

pub all_at : {A : Type 0} (P : A → Type 0) (xs : List A) (at : ℕ) (x : A) → slice_get xs at ≡ Some x → AllByRecursion P xs → P x
all_at P [] at x e all = absurd (cc e)
all_at P (y ∷ ys) zero x e all = subst P (same_Some y x e) all.0
all_at P (y ∷ ys) (suc at) x e all = all_at P ys at x e all.1

pub all_set : {A : Type 0} (P : A → Type 0) (xs : List A) (at : ℕ) (x : A) → P x → AllByRecursion P xs → AllByRecursion P (slice_set xs at x)
all_set P [] at x p all = tt
all_set P (y ∷ ys) zero x p all = (p, all.1)
all_set P (y ∷ ys) (suc at) x p all = (all.0, all_set P ys at x p all.1)

pub all_mapped : {A : Type 0} (P Q : A → Type 0) (xs : List A) → ((x : A) → P x → Q x) → AllByRecursion P xs → AllByRecursion Q xs
all_mapped P Q [] f all = tt
all_mapped P Q (x ∷ xs) f all = (f x all.0, all_mapped P Q xs f all.1)

pub all_from : {A : Type 0} (P : A → Type 0) (xs : List A) → ((at : ℕ) → IfSome (slice_get xs at) P) → AllByRecursion P xs
all_from P [] each = tt
all_from P (x ∷ xs) each = (each 0, all_from P xs (λ at. each (suc at)))
