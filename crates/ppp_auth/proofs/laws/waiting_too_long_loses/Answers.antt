use Rattle.ppp_auth.proofs.LateLemmas.{lost_late, late_lost}
use Rattle.ppp_auth.proofs.laws.waiting_too_long_loses.Goals as goal

pub returns : goal.returns
returns c = λ is_waiting past. (lost_late is_waiting past, late_lost is_waiting past)
