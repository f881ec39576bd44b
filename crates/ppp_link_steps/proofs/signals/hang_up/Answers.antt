use Rattle.ppp_link_steps.proofs.SignalFacts.{hung_does}
use Rattle.ppp_link_steps.proofs.signals.hang_up.Goals as goal

pub returns-clause-does : goal.returns-clause-does
returns-clause-does g c = hung_does c.is_busy-busy.ensures c.holds_until-until.ensures c.is_some-holds.ensures c.hang_up_by.ensures.does
