use Rattle.ppp_link.proofs.GiveFacts.{writing_keeps}
use Rattle.ppp_link.proofs.takes.make_writing.Goals as goal

pub returns-clause-whole : goal.returns-clause-whole
returns-clause-whole g c = writing_keeps {l = c.args.body.now} c.take.ensures.after c.give_writing-octets.ensures.gives c.give_writing-octets.ensures.goes c.requires.whole
