use Rattle.ppp_link_core.proofs.AuthFacts.{called_does}
use Rattle.ppp_link_core.proofs.link_core.LinkCore.tick_phase.Goals as goal

pub returns-clause-does : goal.returns-clause-does
returns-clause-does g c = called_does c.ask_tick-out.ensures.does c.ask_tick-out.ensures.answer c.follow_phase.ensures.does
