-- What one event makes of a table.
use Rattle.std.specs.Prelude.{ℕ, ◌+◌, ◌<◌, ◌≡◌, Bool, false, Option, None, Some, IfSome, List, ⊤, slice_get, if◌then◌else◌}
use Rattle.ppp_base.specs.RingAfter.{one_more}
use Rattle.ppp_bundle.specs.declared.event.BundleEvent.TheVariants as unit_event
use Rattle.ppp_bundle.specs.State.{UnitState, is_open}
use Rattle.ppp_bundle.specs.UnitPart.{IsFresh}
use Rattle.ppp_table.specs.declared.event.TableEvent.{TableEvent}
use Rattle.ppp_table.specs.declared.event.TableEvent.TheVariants.{Packet, Tick, HookOver}
use Rattle.ppp_table.specs.Asking.{woken}
use Rattle.ppp_table.specs.TableState.{TableState}
use Rattle.ppp_table.specs.UnitStep.{UnitStep}

-- whether IPCP of a unit is in Opened
abbrev pub is_open_in : {S : Type 0} → Option (UnitState S) → Bool
is_open_in None = false
is_open_in (Some u) = is_open u.live

abbrev pub counted : {S : Type 0} → TableState S → TableState S
counted t = record t { packets = one_more t.packets }

-- A packet comes for a unit, which sends it or drops it; it is counted. Where IPCP of the unit isn't in Opened, the links are woken that are to dial on demand.
pub record PacketPart {S : Type 0} (unit : ℕ) (datagram : List ℕ) (old new : TableState S) : Type 0 where
  pub mid : TableState S
  pub step : UnitStep unit (unit_event.Datagram datagram) old mid
  pub after : new ≡ counted (if is_open_in (slice_get old.units unit) then mid else woken unit mid)

-- Each unit is told the time, one after the other.
pub record TicksBelow {S : Type 0} (count now : ℕ) (old new : TableState S) : Type 0 where
  pub states : ℕ → TableState S
  pub first : states 0 ≡ old
  pub last : states count ≡ new
  pub each : (unit : ℕ) → unit < count → UnitStep unit (unit_event.Tick now) (states unit) (states (unit + 1))

-- An event that is taken.
abbrev pub TablePart : {S : Type 0} → TableEvent S → (old new : TableState S) → Type 0
TablePart (Packet unit datagram) old new = PacketPart unit datagram old new
TablePart (Tick now) old new = TicksBelow 16 now old new
TablePart (HookOver unit done) old new = UnitStep unit (unit_event.HookOver done) old new

-- An event is stale where it is the end of a script that isn't that unit's running one.
abbrev pub IsFreshAt : {S : Type 0} → TableEvent S → TableState S → Type 0
IsFreshAt (Packet unit datagram) t = ⊤
IsFreshAt (Tick now) t = ⊤
IsFreshAt (HookOver unit done) t = IfSome (slice_get t.units unit) (IsFresh (unit_event.HookOver done))
