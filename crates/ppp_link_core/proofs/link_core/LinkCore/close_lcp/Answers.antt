use Rattle.ppp_link_core.proofs.EndFacts.{lcp_closed_does}
use Rattle.ppp_link_core.proofs.link_core.LinkCore.close_lcp.Goals as goal

pub returns-clause-does : goal.returns-clause-does
returns-clause-does g c = lcp_closed_does c.is_open-was_open.ensures.stands c.ask-out.ensures.answer c.ask-out.ensures.does c.take_close.ensures.does
