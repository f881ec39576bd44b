use Rattle.ppp_link_core.proofs.CallFacts.{rejected_does}
use Rattle.ppp_link_core.proofs.link_core.LinkCore.reject.Goals as goal

pub returns-clause-does : goal.returns-clause-does
returns-clause-does g c = rejected_does c.state-state.ensures.stands c.ask_reject-out.ensures.answer c.ask_reject-out.ensures.does c.take_told.ensures.does
