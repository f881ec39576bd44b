-- A step of one unit, as one of the table.
use Rattle.std.proofs.Common.{◌≡◌, ◌<◌, ℕ, List, [], length, slice_index_or, slice_set, refl, ap, sym, subst, ◌∙◌}
use Rattle.ppp_base.specs.RingAfter.{Ring}
use Rattle.ppp_base.specs.Stepped.{IfStale, OnTaken}
use Rattle.ppp_base.specs.declared.stepped.Stepped.{Stepped}
use Rattle.ppp_base.specs.declared.stepped.Stepped.TheVariants.{Taken, Stale}
use Rattle.ppp_ring.specs.Pieces.{Piece}
use Rattle.ppp_secrets.specs.declared.secrets.SecretsPair.{SecretsPair}
use Rattle.ppp_bundle.specs.declared.event.BundleEvent.{BundleEvent}
use Rattle.ppp_bundle.specs.State.{UnitState}
use Rattle.ppp_table_parts.specs.Side.{SideState}
use Rattle.ppp_table.specs.UnitStep.{UnitGoes, UnitStep}

pub on_taken : {E A B : Type 0} (r : Stepped E) → (A → B) → OnTaken r A → OnTaken r B
on_taken Taken f a = f a
on_taken (Stale e) f a = tt

pub drained_then : {S : Type 0} {E : Type 0} {F : E → Type 0} (r : Stepped E) (secrets : SecretsPair) (unit : ℕ) (event : BundleEvent S) (was now : UnitState S) (sides sides' : List SideState)
    (deliveries deliveries' : Ring (Piece ℕ)) → OnTaken r (UnitGoes secrets unit event was now sides sides' deliveries deliveries')
    → IfStale r F → ((e : E) → F e → now ≡ was) → (was.sent ≡ []) × (was.given ≡ []) → (now.sent ≡ []) × (now.given ≡ [])
drained_then Taken secrets unit event was now sides sides' deliveries deliveries' goes stale same d = rw goes.emptied (refl, refl)
drained_then (Stale e) secrets unit event was now sides sides' deliveries deliveries' goes stale same d = rw (same e stale) d
