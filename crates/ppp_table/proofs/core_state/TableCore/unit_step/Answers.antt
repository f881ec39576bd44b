use Rattle.std.proofs.Common.{◌≡◌, ◌<◌, ℕ, length, arith, refl}
use Rattle.ppp_bundle.specs.UnitPart.{IsFresh}
use Rattle.ppp_table.proofs.Places.{drained_at, drained_set, found, of_found, to_found}
use Rattle.ppp_table.proofs.Steps.{drained_then, on_taken}
use Rattle.ppp_table.proofs.core_state.TableCore.unit_step.Goals as goal

below : (n m : ℕ) → m ≡ 16 → n < 16 → n < m
below n m e lt = rw e lt

pub step_unit-requires-clause-sent : goal.step_unit-requires-clause-sent
step_unit-requires-clause-sent g c = (drained_at c.self.inside.units.items c.number.result c.index_mut.result.now (rw (← c.self.view_is) at c.requires.drained)
    (found c.self.inside.units.items c.number.result c.index_mut.result.now (below c.number.result (length c.self.inside.units.items) (rw (← c.self.view_is) at c.requires.sixteen) (grind (arith, c.number.ensures.value, c.number.ensures.range))) c.index_mut.ensures.value)).0

pub step_unit-requires-clause-given : goal.step_unit-requires-clause-given
step_unit-requires-clause-given g c = (drained_at c.self.inside.units.items c.number.result c.index_mut.result.now (rw (← c.self.view_is) at c.requires.drained)
    (found c.self.inside.units.items c.number.result c.index_mut.result.now (below c.number.result (length c.self.inside.units.items) (rw (← c.self.view_is) at c.requires.sixteen) (grind (arith, c.number.ensures.value, c.number.ensures.range))) c.index_mut.ensures.value)).1

pub returns-clause-taken : goal.returns-clause-taken
returns-clause-taken g c =
    let some : c.number.result < length c.self.inside.units.items = below c.number.result (length c.self.inside.units.items) (rw (← c.self.view_is) at c.requires.sixteen) (grind (arith, c.number.ensures.value, c.number.ensures.range)) in
    rw (← c.self.view_is, ← c.number.ensures.value) (
      λ t. to_found (IsFresh c.args.event) c.self.inside.units.items c.number.result c.index_mut.result.now some c.index_mut.ensures.value (c.step_unit.ensures.taken.0 t),
      λ f. c.step_unit.ensures.taken.1 (of_found (IsFresh c.args.event) c.self.inside.units.items c.number.result c.index_mut.result.now some c.index_mut.ensures.value f),
    )

pub returns-clause-step : goal.returns-clause-step
returns-clause-step g c =
    let some : c.number.result < length c.self.inside.units.items = below c.number.result (length c.self.inside.units.items) (rw (← c.self.view_is) at c.requires.sixteen) (grind (arith, c.number.ensures.value, c.number.ensures.range)) in
    on_taken c.step_unit.result (λ goes. rw (← c.self.view_is, ← c.number.ensures.value) (record {
      was = c.index_mut.result.now;
      now = c.step_unit.new.unit;
      there = found c.self.inside.units.items c.number.result c.index_mut.result.now some c.index_mut.ensures.value;
      goes = rw c.number.ensures.value goes;
      after = refl;
    })) c.step_unit.ensures.goes

pub returns-clause-drained : goal.returns-clause-drained
returns-clause-drained g c =
    let some : c.number.result < length c.self.inside.units.items = below c.number.result (length c.self.inside.units.items) (rw (← c.self.view_is) at c.requires.sixteen) (grind (arith, c.number.ensures.value, c.number.ensures.range)) in
    let before : _ = drained_at c.self.inside.units.items c.number.result c.index_mut.result.now (rw (← c.self.view_is) at c.requires.drained) (found c.self.inside.units.items c.number.result c.index_mut.result.now some c.index_mut.ensures.value) in
    let after : _ = drained_then c.step_unit.result _ _ _ _ _ _ _ _ _ c.step_unit.ensures.goes c.step_unit.ensures.stale (λ e f. f.1) before in
    drained_set c.self.inside.units.items c.number.result c.step_unit.new.unit (rw (← c.self.view_is) at c.requires.drained) after.0 after.1
