-- A step of a link, by whether the options have that link.
use Rattle.std.proofs.Common.{◌≡◌, ◌-◌, ℕ, false, Option, None, Some, subst}
use Rattle.std.specs.Prelude.{slice_get, slice_set}
use Rattle.ppp_trace.specs.declared.world_step.WorldStep.{WorldStep}
use Rattle.ppp_world_rules.specs.Place.{PlaceState}
use Rattle.ppp_world_rules.specs.Router.{Router}
use Rattle.ppp_world_rules.specs.Rows.{stepped}
use Rattle.ppp_world_rules.specs.Turns.{turn_of}
use Rattle.ppp_world_rules.specs.WorldPart.{Answer, LinkSteps, Turns, silent}

turns_of : (link : ℕ) (step : WorldStep) (old new : Router) (answer : Answer) (place : Option PlaceState) (p : PlaceState) → place ≡ Some p → LinkSteps place step link old new answer
    → Turns (turn_of step p) link old new answer
turns_of link step old new answer place p there s = subst (λ (o : Option PlaceState). LinkSteps o step link old new answer) there s

pub leaves_stepped : (link : ℕ) (step : WorldStep) (old new : Router) (answer : Answer) (place : Option PlaceState) (p : PlaceState) → place ≡ Some p → LinkSteps place step link old new answer
    → new ≡ record old { links = slice_set old.links (link - 1) (stepped step p) }
leaves_stepped link step old new answer place p there s = (turns_of link step old new answer place p there s).after

pub answers_turn : (link : ℕ) (step : WorldStep) (old new : Router) (answer : Answer) (place : Option PlaceState) (p : PlaceState) → place ≡ Some p → LinkSteps place step link old new answer
    → answer ≡ record { taken = (turn_of step p).taken; written = (turn_of step p).written }
answers_turn link step old new answer place p there s = (turns_of link step old new answer place p there s).answered

pub leaves_idle : (link : ℕ) (step : WorldStep) (old new : Router) (answer : Answer) (place : Option PlaceState) → place ≡ None → LinkSteps place step link old new answer
    → (new ≡ old) × (answer ≡ silent false)
leaves_idle link step old new answer None there s = (s.same, s.stale)
leaves_idle link step old new answer (Some p) there s = absurd (cc there)
