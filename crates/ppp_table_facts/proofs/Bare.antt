-- A unit without a bundle gives nothing by a step.
use Rattle.std.proofs.Common.{◌≡◌, ℕ, Option, None, Some, List, [], refl, ap, ◌∙◌}
use Rattle.ppp_secrets.specs.declared.secrets.SecretsPair.{SecretsPair}
use Rattle.ppp_unit_parts.specs.declared.live.Live.{Live}
use Rattle.ppp_unit_parts.specs.declared.outbox.Ending.{Ending}
use Rattle.ppp_bundle.specs.declared.event.BundleEvent.{BundleEvent}
use Rattle.ppp_bundle.specs.declared.event.BundleEvent.TheVariants.{Make, In, Out, Frame, Datagram, Tick, HookOver}
use Rattle.ppp_bundle.specs.Closing.{closed_if, closed_of, crowded_end}
use Rattle.ppp_bundle.specs.State.{UnitState}
use Rattle.ppp_bundle.specs.UnitPart.{UnitPart, after_event}

closed_given : {S : Type 0} (o : Option Live) (e : Ending) (u : UnitState S) → (closed_of o e u).given ≡ u.given
closed_given None e u = refl
closed_given (Some l) e u = refl

if_given : {S : Type 0} (e : Option Ending) (u : UnitState S) → (closed_if e u).given ≡ u.given
if_given None u = refl
if_given (Some e) u = closed_given u.live e u

bare_given : {S : Type 0} (secrets : SecretsPair) (event : BundleEvent S) (packets : List (List ℕ)) (u : UnitState S) → u.live ≡ None → (after_event secrets event packets u).given ≡ u.given
bare_given secrets (Make number maker wish mrru allow) packets u live = refl
bare_given secrets (In link stay mru) packets u live = rw live refl
bare_given secrets (Out link stay) packets u live = rw live refl
bare_given secrets (Frame link protocol information) packets u live = rw live refl
bare_given secrets (Datagram datagram) packets u live = rw live refl
bare_given secrets (Tick now) packets u live = rw live refl
bare_given secrets (HookOver done) packets u live = refl

pub nothing_given : {S : Type 0} (secrets : SecretsPair) (event : BundleEvent S) (was is : UnitState S) → UnitPart secrets event was is → was.live ≡ None → was.given ≡ [] → is.given ≡ []
nothing_given {S = S} secrets event was is part live empty =
    let asked : UnitState S = record was { gather = part.gathered.gather; ended = None } in
    let mid : UnitState S = after_event secrets event part.gathered.packets asked in
    ap (λ (u : UnitState S). u.given) part.after ∙ if_given (crowded_end mid.scripts.log.past) mid ∙ bare_given secrets event part.gathered.packets asked live ∙ empty
