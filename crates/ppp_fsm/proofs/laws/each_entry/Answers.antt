use Rattle.ppp_fsm.proofs.TableLemmas.{each_entry}
use Rattle.ppp_fsm.proofs.laws.each_entry.Goals as goal

pub returns : goal.returns
returns c = each_entry
