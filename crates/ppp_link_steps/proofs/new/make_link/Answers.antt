use Rattle.ppp_link_steps.proofs.NewFacts.{new_calm}
use Rattle.ppp_link_steps.proofs.new.make_link.Goals as goal

pub returns-clause-calm : goal.returns-clause-calm
returns-clause-calm g c = new_calm c.lcp_wish-wish.ensures.is c.in_ok-link.ensures.stands
