-- Where no script ended, a spawner in its machine has the counts that it had.
use Rattle.std.proofs.Common.{◌≡◌, ℕ, Option, subst}
use Rattle.std.specs.Prelude.{IfSome}
use Rattle.ppp_hooks.specs.HookCounts.{CountsFrom, MachineCounts}
use Rattle.ppp_hooks.specs.HookState.{HookState}
use Rattle.ppp_mark.specs.ScriptLog.{ScriptLogState}
use Rattle.ppp_bundle.specs.declared.event.BundleEvent.{BundleEvent}
use Rattle.ppp_bundle.specs.declared.event.BundleEvent.TheVariants.{Make, In, Out, Frame, Datagram, Tick, HookOver}
use Rattle.ppp_bundle.specs.Sound.{Moves}
use Rattle.ppp_bundle.specs.State.{UnitState}
use Rattle.ppp_bundle.specs.UnitPart.{EventCounts}

by_spawner : {S : Type 0} (tries faults : S → ℕ) (t f : ℕ) (old new : Option S) (ends ends' not_started not_started' : ℕ) → new ≡ old → ends' ≡ ends → not_started' ≡ not_started
    → IfSome old (λ s. CountsFrom t f (tries s) (faults s) ends not_started) → IfSome new (λ s. CountsFrom t f (tries s) (faults s) ends' not_started')
by_spawner tries faults t f old new ends ends' not_started not_started' e e1 e2 counts = rw (e, e1, e2) counts

pub moved_counts : {S : Type 0} (tries faults : S → ℕ) (t f most : ℕ) (old new : ScriptLogState S) → Moves most old new
    → MachineCounts tries faults t f old.machine → MachineCounts tries faults t f new.machine
moved_counts tries faults t f most old new moves counts =
    by_spawner tries faults t f old.machine.spawner new.machine.spawner old.machine.facts.ends new.machine.facts.ends old.machine.facts.not_started new.machine.facts.not_started
    moves.spawner moves.ends moves.not_started counts

-- before a step's end is taken out, the same machine
pub event_counts : {S : Type 0} (tries faults : S → ℕ) (t f : ℕ) (event : BundleEvent S) (old new : UnitState S) → old.scripts.machine ≡ new.scripts.machine
    → EventCounts tries faults t f event old → EventCounts tries faults t f event new
event_counts tries faults t f (HookOver done) old new e counts = counts
event_counts {S = S} tries faults t f (Make number maker wish mrru allow) old new e counts = subst (λ (m : HookState S). MachineCounts tries faults t f m) e counts
event_counts {S = S} tries faults t f (In link stay mru) old new e counts = subst (λ (m : HookState S). MachineCounts tries faults t f m) e counts
event_counts {S = S} tries faults t f (Out link stay) old new e counts = subst (λ (m : HookState S). MachineCounts tries faults t f m) e counts
event_counts {S = S} tries faults t f (Frame link protocol information) old new e counts = subst (λ (m : HookState S). MachineCounts tries faults t f m) e counts
event_counts {S = S} tries faults t f (Datagram datagram) old new e counts = subst (λ (m : HookState S). MachineCounts tries faults t f m) e counts
event_counts {S = S} tries faults t f (Tick now) old new e counts = subst (λ (m : HookState S). MachineCounts tries faults t f m) e counts
