use Rattle.ppp_fsm.proofs.MovingLemmas.{within_ten}
use Rattle.ppp_fsm.proofs.laws.ten_states.Goals as goal

pub returns : goal.returns
returns c = within_ten
