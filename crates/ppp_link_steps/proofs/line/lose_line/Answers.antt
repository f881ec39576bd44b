use Rattle.ppp_link_steps.proofs.LineFacts.{lost_calm, lost_does}
use Rattle.ppp_link_steps.proofs.line.lose_line.Goals as goal

pub returns-clause-does : goal.returns-clause-does
returns-clause-does g c = lost_does c.args.cause c.is_lasting-lasting.ensures c.is_lost-lost.ensures c.end_if.ensures.does

pub returns-clause-calm : goal.returns-clause-calm
returns-clause-calm g c = lost_calm c.args.cause (lost_does c.args.cause c.is_lasting-lasting.ensures c.is_lost-lost.ensures c.end_if.ensures.does)
