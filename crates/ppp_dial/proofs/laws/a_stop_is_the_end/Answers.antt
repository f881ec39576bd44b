use Rattle.ppp_dial.proofs.StopLemmas.{stop_is_the_end}
use Rattle.ppp_dial.proofs.laws.a_stop_is_the_end.Goals as goal

pub returns : goal.returns
returns c = stop_is_the_end
