use Rattle.ppp_link_steps.proofs.OverFacts.{session_does}
use Rattle.ppp_link_steps.proofs.sessions.end_session.Goals as goal

pub returns-clause-does : goal.returns-clause-does
returns-clause-does g c = session_does c.is_over-over.ensures.stands c.end_if.ensures.does
