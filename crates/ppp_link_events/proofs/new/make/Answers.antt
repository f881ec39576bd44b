use Rattle.ppp_link_events.proofs.NewFacts.{new_goes, new_going}
use Rattle.ppp_link_events.proofs.new.make.Goals as goal

pub returns-clause-going : goal.returns-clause-going
returns-clause-going g c = new_going c.requires.least c.in_ok-link.ensures.stands

pub returns-clause-goes : goal.returns-clause-goes
returns-clause-goes g c = new_goes c.lcp_wish-wish.ensures.is c.requires.least c.in_ok-link.ensures.stands c.in_ok-link.ensures.sits c.in_ok-link.ensures.calm
