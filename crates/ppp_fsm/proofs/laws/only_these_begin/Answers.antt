use Rattle.ppp_fsm.proofs.MovingLemmas.{begun_by_these}
use Rattle.ppp_fsm.proofs.laws.only_these_begin.Goals as goal

pub returns : goal.returns
returns c = begun_by_these
