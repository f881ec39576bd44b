use Rattle.ppp_fsm.proofs.OpeningLemmas.{zeroed_in_opened}
use Rattle.ppp_fsm.proofs.laws.terminated_in_opened.Goals as goal

pub returns : goal.returns
returns c = zeroed_in_opened
