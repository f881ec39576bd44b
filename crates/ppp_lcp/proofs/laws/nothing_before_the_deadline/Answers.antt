-- By which timer runs.
use Rattle.ppp_lcp.proofs.TimerLemmas.{silent}
use Rattle.ppp_lcp.proofs.laws.nothing_before_the_deadline.Goals as goal

pub returns : goal.returns
returns c = silent
