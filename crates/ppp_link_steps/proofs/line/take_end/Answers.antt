use Rattle.ppp_link_steps.proofs.LineFacts.{gone_does}
use Rattle.ppp_link_steps.proofs.line.take_end.Goals as goal

pub returns-clause-does : goal.returns-clause-does
returns-clause-does g c = gone_does c.args.cause c.is_busy-first.ensures.stands c.end_line.ensures.does c.first_cause.ensures.does c.call.ensures.does c.close_if.ensures.does
