-- Units at their places.
use Rattle.std.proofs.Common.{◌≡◌, ◌<◌, ◌+◌, ℕ, zero, suc, Option, Some, None, IfSome, List, [], ◌∷◌, length, slice_get, slice_set, slice_index_or, refl, ap, sym, subst, ◌∙◌, arith}
use Rattle.ppp_bundle.specs.State.{UnitState}
use Rattle.ppp_table.specs.TableState.{AreDrained}

pub got : {A : Type 0} (xs : List A) (n : ℕ) (d : A) → n < length xs → slice_get xs n ≡ Some (slice_index_or xs n d)
got [] n d some = absurd (grind arith)
got (x ∷ xs) zero d some = refl
got (x ∷ xs) (suc n) d some = got xs n d (let s : suc n < suc (length xs) = some in grind arith)

pub found : {A : Type 0} (xs : List A) (n : ℕ) (x : A) → n < length xs → x ≡ slice_index_or xs n x → slice_get xs n ≡ Some x
found xs n x some e = got xs n x some ∙ ap Some (sym e)

pub length_set : {A : Type 0} (xs : List A) (n : ℕ) (x : A) → length (slice_set xs n x) ≡ length xs
length_set [] n x = refl
length_set (y ∷ xs) zero x = refl
length_set (y ∷ xs) (suc n) x = ap suc (length_set xs n x)

-- what holds of the unit at a place
pub of_found : {A : Type 0} (P : A → Type 0) (xs : List A) (n : ℕ) (x : A) → n < length xs → x ≡ slice_index_or xs n x → IfSome (slice_get xs n) P → P x
of_found P xs n x some e p = subst (λ (o : Option _). IfSome o P) (found xs n x some e) p

pub to_found : {A : Type 0} (P : A → Type 0) (xs : List A) (n : ℕ) (x : A) → n < length xs → x ≡ slice_index_or xs n x → P x → IfSome (slice_get xs n) P
to_found P xs n x some e p = subst (λ (o : Option _). IfSome o P) (sym (found xs n x some e)) p

pub drained_at : {S : Type 0} (units : List (UnitState S)) (n : ℕ) (u : UnitState S) → AreDrained units → slice_get units n ≡ Some u → (u.sent ≡ []) × (u.given ≡ [])
drained_at [] n u d e = absurd (let f : None ≡ Some u = e in cc)
drained_at (v ∷ units) zero u d e = let f : v ≡ u = (let g : Some v ≡ Some u = e in cc) in rw (← f) (d.0, d.1)
drained_at (v ∷ units) (suc n) u d e = drained_at units n u d.2 e

pub drained_set : {S : Type 0} (units : List (UnitState S)) (n : ℕ) (u : UnitState S) → AreDrained units → u.sent ≡ [] → u.given ≡ [] → AreDrained (slice_set units n u)
drained_set [] n u d sent given = tt
drained_set (v ∷ units) zero u d sent given = (sent, given, d.2)
drained_set (v ∷ units) (suc n) u d sent given = (d.0, d.1, drained_set units n u d.2 sent given)
