use Rattle.ppp_table.proofs.Wholes.{whole_woken}
use Rattle.ppp_table.proofs.core_state.TableCore.wake_for.Goals as goal

pub returns-clause-whole : goal.returns-clause-whole
returns-clause-whole g c = whole_woken c.args.unit c.as_slice.result.now _ c.args.self.now _ c.self.view_is c.wake.ensures c.requires.whole
