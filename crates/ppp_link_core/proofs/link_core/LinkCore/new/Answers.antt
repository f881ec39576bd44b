use Rattle.ppp_link_core.proofs.NewFacts.{new_lives}
use Rattle.ppp_link_core.proofs.link_core.LinkCore.new.Goals as goal

pub returns-clause-lives : goal.returns-clause-lives
returns-clause-lives g c = new_lives c.lcp_wish-wish.ensures.is c.in_ok-link.ensures.stands
