use Rattle.std.proofs.Common.{◌≡◌, ◌∙◌, ◌++◌, ◌∷◌, [], ap, length, arith}
use Rattle.std.proofs.lemmas.Grind.{common_steps}
use Rattle.ppp_chat.specs.Room.{settings_with}
use Rattle.ppp_chat.specs.Texts.{kept_settings}
use Rattle.ppp_chat.specs.declared.step.Step.{Step}
use Rattle.ppp_chat.specs.declared.step.Step.TheVariants.{Direct}
use Rattle.ppp_chat.proofs.Obeyed.{obeyed_push, obeyed_same}
use Rattle.ppp_chat.proofs.steps.Steps.push.Goals as goal

pub invariant_of-self-in-Direct : goal.invariant_of-self-in-Direct
invariant_of-self-in-Direct c =
    let pushed : c.as_slice-steps.result.now ≡ c.self.inside.steps.items ++ c.args.step ∷ [] = grind (arith, common_steps) in
    let at : c.index-steps-place.result ≡ c.args.step = grind (arith, common_steps) in
    let place : c.len-place.result ≡ length c.self.inside.steps.items = grind (arith, common_steps) in
    let is : Direct c.in-Direct.directive ≡ c.args.step = rw (← c.in-Direct.is) at in
    rw c.in_ok-push.ensures.items
    (obeyed_push c.self.inside.steps.items c.args.step c.self.inside.directives c.obey.new.self c.self.invariant c.requires.short
    (rw (← pushed) (c.obey.ensures.set ∙ ap (λ (step : Step). settings_with step (kept_settings c.as_slice-steps.result.now c.self.inside.directives)) is))
    (rw place at c.obey.ensures.below) c.obey.ensures.few)

pub invariant_of-self-in_default : goal.invariant_of-self-in_default
invariant_of-self-in_default c =
    let at : c.index-steps-place.result ≡ c.args.step = grind (arith, common_steps) in
    rw c.in_ok-push.ensures.items
    (obeyed_same c.self.inside.steps.items c.args.step c.self.inside.directives c.self.invariant c.requires.short
    (λ directive is. c.in_default.not-Direct directive (at ∙ is)))
