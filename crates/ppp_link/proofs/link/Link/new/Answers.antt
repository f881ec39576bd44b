use Rattle.ppp_link.proofs.LinkFacts.{new_whole}
use Rattle.ppp_link.proofs.link.Link.new.Goals as goal

pub invariant_of-result : goal.invariant_of-result
invariant_of-result g c = new_whole c.args.dialer c.lcp_wish-wish.ensures.is c.in_ok-core.ensures.going c.in_ok-core.ensures.goes c.requires.tries
