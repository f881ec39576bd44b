use Rattle.std.proofs.Common.{ap, ◌∙◌}
use Rattle.std.specs.Prelude.{◌||◌}
use Rattle.ppp_link_steps.proofs.SignalFacts.{stop_does}
use Rattle.ppp_link_steps.proofs.signals.stop.Goals as goal

pub returns-clause-does : goal.returns-clause-does
returns-clause-does g c = stop_does c.args.word c.is_stopped-was_stopped.ensures c.status-status.ensures (c.is_done-done.ensures ∙ ap (λ x. c.is_stopped-was_stopped.result || x) c.is_some.ensures) c.stop_by.ensures.does
