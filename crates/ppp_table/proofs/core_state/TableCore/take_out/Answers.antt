use Rattle.ppp_table.proofs.Apart.{gone_after}
use Rattle.ppp_table.proofs.Wholes.{whole_out}
use Rattle.ppp_table.proofs.core_state.TableCore.take_out.Goals as goal

pub returns-clause-whole : goal.returns-clause-whole
returns-clause-whole g c = whole_out c.args.stay c.args.link c.args.self.now c.unit_takes.new.self c.unit_takes.ensures.step c.requires.whole c.unit_takes.ensures.sixteen c.unit_takes.ensures.drained

pub returns-clause-gone : goal.returns-clause-gone
returns-clause-gone g c = gone_after c.args.stay c.args.link c.args.self.now c.unit_takes.new.self c.requires.there c.unit_takes.ensures.step c.requires.whole.apart
