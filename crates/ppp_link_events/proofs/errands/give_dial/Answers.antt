use Rattle.ppp_link_events.proofs.ErrandFacts.{dial_goes}
use Rattle.ppp_link_events.proofs.errands.give_dial.Goals as goal

pub returns-clause-goes : goal.returns-clause-goes
returns-clause-goes g c = dial_goes {c = c.args.core.now} c.requires.waits c.requires.goes
