use Rattle.ppp_table.proofs.Wholes.{whole_keeps}
use Rattle.ppp_table.proofs.core_state.TableCore.unit_keeps.Goals as goal

pub returns-clause-whole : goal.returns-clause-whole
returns-clause-whole g c = whole_keeps c.args.unit c.args.event c.args.self.now c.unit_takes.new.self c.unit_takes.ensures.step c.requires.whole c.requires.quiet c.unit_takes.ensures.sixteen c.unit_takes.ensures.drained
