-- A count over all units, one after the other.
use Rattle.std.proofs.Common.{◌≡◌, ◌≤◌, ◌<◌, ◌+◌, ◌-◌, ◌^◌, ℕ, zero, suc, min, List, [], ◌∷◌, length, drop, slice_index_or, refl, ap, sym, ◌∙◌, arith}
use Rattle.ppp_bundle.specs.State.{UnitState}
use Rattle.ppp_table.specs.Counts.{stopped, sum_of}

-- the count so far, and what is left, are the whole
pub record Counted {S : Type 0} (count : UnitState S → ℕ) (so_far index : ℕ) (units : List (UnitState S)) : Type 0 where
  pub rest : stopped (so_far + sum_of count (drop index units)) ≡ stopped (sum_of count units)
  pub within : so_far ≤ 2 ^ 64 - 1

pub none_counted : {S : Type 0} (count : UnitState S → ℕ) (units : List (UnitState S)) → Counted count 0 0 units
none_counted count units = record { rest = (let e : 0 + sum_of count units ≡ sum_of count units = omega arith in ap stopped e); within = grind arith }

one_of : {S : Type 0} (count : UnitState S → ℕ) (n : ℕ) (units : List (UnitState S)) (u : UnitState S) → n < length units → sum_of count (drop n units) ≡ count (slice_index_or units n u) + sum_of count (drop (suc n) units)
one_of count n [] u some = absurd (grind arith)
one_of count zero (v ∷ units) u some = refl
one_of count (suc n) (v ∷ units) u some = one_of count n units u (let s : suc n < suc (length units) = some in grind arith)

pub one_counted : {S : Type 0} (count : UnitState S → ℕ) (so_far index : ℕ) (units : List (UnitState S)) (u : UnitState S) → index < length units → u ≡ slice_index_or units index u → Counted count so_far index units
    → Counted count (min (so_far + count u) (2 ^ 64 - 1)) (index + 1) units
one_counted count so_far index units u some is c =
    let next : index + 1 ≡ suc index = grind arith in
    let one : sum_of count (drop index units) ≡ count u + sum_of count (drop (suc index) units) = one_of count index units u some ∙ ap (λ v. count v + sum_of count (drop (suc index) units)) (sym is) in
    let rest = c.rest in
    record {
      rest = rw next ((let e : stopped (so_far + (count u + sum_of count (drop (suc index) units))) ≡ stopped (sum_of count units) = rw one at rest in grind (arith, e)));
      within = grind arith;
    }

none_left : {S : Type 0} (count : UnitState S → ℕ) (n : ℕ) (units : List (UnitState S)) → length units ≤ n → sum_of count (drop n units) ≡ 0
none_left count zero [] few = refl
none_left count zero (u ∷ units) few = absurd (grind arith)
none_left count (suc n) [] few = refl
none_left count (suc n) (u ∷ units) few = none_left count n units (let f : suc (length units) ≤ suc n = few in grind arith)

pub all_counted : {S : Type 0} (count : UnitState S → ℕ) (so_far index : ℕ) (units : List (UnitState S)) → length units ≤ index → Counted count so_far index units → so_far ≡ stopped (sum_of count units)
all_counted count so_far index units few c = (rw (none_left count index units few) (let within = c.within in grind (arith, within))) ∙ c.rest
