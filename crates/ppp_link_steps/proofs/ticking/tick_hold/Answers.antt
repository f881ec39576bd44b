use Rattle.std.proofs.Common.{ap, ◌∙◌}
use Rattle.std.specs.Prelude.{◌&&◌}
use Rattle.ppp_link_steps.proofs.TickFacts.{hold_does}
use Rattle.ppp_link_steps.proofs.ticking.tick_hold.Goals as goal

pub returns-clause-does : goal.returns-clause-does
returns-clause-does g c = hold_does c.args.due c.holds_until-until.ensures (c.is_left-treat.ensures ∙ ap (λ x. c.args.due && x) c.is_some.ensures) c.treat_hold.ensures.does
