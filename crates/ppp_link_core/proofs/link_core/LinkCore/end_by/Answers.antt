use Rattle.ppp_link_core.proofs.EndFacts.{ended_does}
use Rattle.ppp_link_core.proofs.link_core.LinkCore.end_by.Goals as goal

pub returns-clause-does : goal.returns-clause-does
returns-clause-does g c = ended_does c.args.cause c.is_busy-busy.ensures.stands c.end_if.ensures.does
