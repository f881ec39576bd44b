use Rattle.std.proofs.Common.{length}
use Rattle.ppp_control.proofs.Sorts.{SortsOut}
use Rattle.ppp_control.proofs.judging.verdict_by.Given as goal

abbrev pub invariant-judging : goal.invariant-judging
invariant-judging g l = SortsOut (g.J.Judge.judgement l.judge) l.request l.sorting l.walk

abbrev pub decreases-judging : goal.decreases-judging
decreases-judging g l = length l.walk
