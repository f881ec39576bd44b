use Rattle.ppp_fsm.proofs.MovingLemmas.{stays_until_open}
use Rattle.ppp_fsm.proofs.laws.shut_until_open.Goals as goal

pub returns : goal.returns
returns c = stays_until_open
