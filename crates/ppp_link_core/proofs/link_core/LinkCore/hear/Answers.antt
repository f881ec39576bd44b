use Rattle.ppp_link_core.proofs.CallFacts.{called_does}
use Rattle.ppp_link_core.proofs.link_core.LinkCore.hear.Goals as goal

pub returns-clause-does : goal.returns-clause-does
returns-clause-does g c = called_does c.state-state.ensures.stands c.ask_heard-out.ensures.answer c.ask_heard-out.ensures.does c.take_told.ensures.does
