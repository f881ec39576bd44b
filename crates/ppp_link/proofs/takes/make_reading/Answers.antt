use Rattle.ppp_link.proofs.GiveFacts.{reading_keeps}
use Rattle.ppp_link.proofs.takes.make_reading.Goals as goal

pub returns-clause-whole : goal.returns-clause-whole
returns-clause-whole g c = reading_keeps {l = c.args.body.now} c.take.ensures.after c.give_reading.ensures.gives c.give_reading.ensures.goes c.requires.whole
