use Rattle.ppp_fsm.proofs.MovingLemmas.{shut_by_close}
use Rattle.ppp_fsm.proofs.laws.close_shuts.Goals as goal

pub returns : goal.returns
returns c = shut_by_close
