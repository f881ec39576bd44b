use Rattle.std.proofs.Common.{◌≡◌, ◌≤◌, ◌+◌, length}
use Rattle.ppp_trace.proofs.TraceLemmas.{SoFar}
use Rattle.ppp_trace.proofs.bare.steps.Given as goal

-- The steps are those of the lines up to the rest, and the number is that of the next line.
abbrev pub invariant-lines : goal.invariant-lines
invariant-lines l = (l.number ≡ length l.steps.items + 2) × (l.number ≤ 100002) × SoFar l.fn.text l.rest l.steps.items

abbrev pub decreases-lines : goal.decreases-lines
decreases-lines l = length l.rest
