use Rattle.ppp_link_core.proofs.JoinFacts.{tried_does}
use Rattle.ppp_link_core.proofs.link_core.LinkCore.try_join.Goals as goal

pub returns-clause-does : goal.returns-clause-does
returns-clause-does g c = tried_does c.may_ask-may.ensures.stands c.join_if.ensures.does
