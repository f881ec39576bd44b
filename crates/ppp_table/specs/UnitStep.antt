-- What a step of one unit makes of the table.
use Rattle.std.specs.Prelude.{ℕ, ◌≡◌, ⊤, Option, None, Some, List, [], slice_get, slice_set}
use Rattle.ppp_bundle.specs.declared.event.BundleEvent.{BundleEvent}
use Rattle.ppp_bundle.specs.declared.event.BundleEvent.TheVariants.{Make, In, Out, Frame, Datagram, Tick, HookOver}
use Rattle.ppp_bundle.specs.State.{UnitState}
use Rattle.ppp_bundle.specs.Lives.{GoesOnAll, HasBegun}
use Rattle.ppp_bundle.specs.UnitPart.{UnitPart}
use Rattle.ppp_base.specs.RingAfter.{Ring}
use Rattle.ppp_ring.specs.Pieces.{Piece}
use Rattle.ppp_secrets.specs.declared.secrets.SecretsPair.{SecretsPair}
use Rattle.ppp_table_parts.specs.Side.{SideState}
use Rattle.ppp_table_parts.specs.Deliveries.{with_deliveries}
use Rattle.ppp_table.specs.TableState.{TableState}
use Rattle.ppp_table.specs.Told.{before, news_of, posted, told_all}

-- A unit takes an event, by what it makes of it, and whatever history its bundle had goes on with it. What it sends goes to the rings of its links, and what it gives to the
-- deliveries; then its links are told.
pub record UnitGoes {S : Type 0} (secrets : SecretsPair) (unit : ℕ) (event : BundleEvent S) (was now : UnitState S) (sides sides' : List SideState)
    (deliveries deliveries' : Ring (Piece ℕ)) : Type 0 where
  pub is : UnitState S
  pub part : UnitPart secrets event was is
  pub begun : HasBegun event was is
  pub history : GoesOnAll secrets event was is
  pub emptied : now ≡ record is { sent = []; given = [] }
  pub told : sides' ≡ told_all (news_of unit (before was event) is) (posted is.sent sides)
  pub given : deliveries' ≡ with_deliveries unit is.given deliveries

-- An event of one of the units. All else stays as it is.
pub record UnitStep {S : Type 0} (unit : ℕ) (event : BundleEvent S) (old new : TableState S) : Type 0 where
  pub was : UnitState S
  pub now : UnitState S
  pub there : slice_get old.units unit ≡ Some was
  pub goes : UnitGoes old.secrets unit event was now old.sides new.sides old.deliveries new.deliveries
  pub after : new ≡ record old { units = slice_set old.units unit now; sides = new.sides; deliveries = new.deliveries }

-- By these events no bundle is made, and no link comes in or asks to go out.
abbrev pub IsQuiet : {S : Type 0} → BundleEvent S → Type 0
IsQuiet (Make number maker wish mrru allow) = ⊥
IsQuiet (In link stay mru) = ⊥
IsQuiet (Out link stay) = ⊥
IsQuiet (Frame link protocol information) = ⊤
IsQuiet (Datagram datagram) = ⊤
IsQuiet (Tick now) = ⊤
IsQuiet (HookOver done) = ⊤
