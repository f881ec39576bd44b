use Rattle.ppp_link_events.proofs.ErrandFacts.{writing_goes}
use Rattle.ppp_link_events.proofs.errands.give_writing.Goals as goal

pub returns-clause-goes : goal.returns-clause-goes
returns-clause-goes g c = writing_goes {c = c.args.core.now} c.take.ensures.new c.requires.gives c.requires.goes
