use Rattle.ppp_link_events.proofs.ErrandFacts.{post_first, post_gives_some, post_goes, post_none}
use Rattle.ppp_link_events.proofs.errands.give_post.Goals as goal

pub returns-clause-first : goal.returns-clause-first
returns-clause-first g c = post_first {c = c.args.core.now} c.take.result c.take.new.self.waiting c.take.ensures.first c.take.ensures.none

pub returns-clause-gives : goal.returns-clause-gives
returns-clause-gives g c = post_gives_some c.args.core.now c.take.result c.take.ensures.new

pub returns-clause-none : goal.returns-clause-none
returns-clause-none g c = post_none c.args.core.now c.take.result c.take.ensures.new c.take.ensures.none

pub returns-clause-goes : goal.returns-clause-goes
returns-clause-goes g c = post_goes {c = c.args.core.now} c.take.ensures.new c.requires.goes
