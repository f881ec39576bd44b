use Rattle.std.proofs.Common.{length}
use Rattle.ppp_trace.proofs.PartLemmas.{StepsSoFar}
use Rattle.ppp_trace.proofs.parts.check_steps.Given as goal

-- The lines so far are steps.
abbrev pub invariant-lines : goal.invariant-lines
invariant-lines l = StepsSoFar l.links l.text l.rest l.count

abbrev pub decreases-lines : goal.decreases-lines
decreases-lines l = length l.rest
