use Rattle.ppp_table.proofs.Wholes.{whole_over}
use Rattle.ppp_table.proofs.core_state.TableCore.over.Goals as goal

pub returns-clause-whole : goal.returns-clause-whole
returns-clause-whole g c = whole_over c.unit_step.result c.args.unit c.args.done c.args.self.now c.unit_step.new.self c.unit_step.ensures.step c.unit_step.ensures.stale (λ e f. f.1) c.requires.whole c.unit_step.ensures.sixteen c.unit_step.ensures.drained
