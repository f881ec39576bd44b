use Rattle.ppp_link_core.proofs.AuthFacts.{begun_then}
use Rattle.ppp_link_core.proofs.link_core.LinkCore.begin_phase.Goals as goal

pub returns-in-Some-clause-does : goal.returns-in-Some-clause-does
returns-in-Some-clause-does g c = begun_then c.in-Some.is c.agreed.ensures.stands c.begin_by.ensures.does
