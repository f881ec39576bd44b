use Rattle.ppp_link_events.proofs.ErrandFacts.{reading_goes}
use Rattle.ppp_link_events.proofs.errands.give_reading.Goals as goal

pub returns-clause-goes : goal.returns-clause-goes
returns-clause-goes g c = reading_goes {c = c.args.core.now} c.requires.gives c.requires.goes
