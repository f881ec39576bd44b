use Rattle.ppp_dial.proofs.PlaceLemmas.{may_be_left_out}
use Rattle.ppp_dial.proofs.laws.passed_over_leaves_nothing.Goals as goal

pub returns : goal.returns
returns c = may_be_left_out
