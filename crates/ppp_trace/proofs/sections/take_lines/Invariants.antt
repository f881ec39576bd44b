use Rattle.std.proofs.Common.{◌-◌, ◌≤◌}
use Rattle.ppp_trace.proofs.SectionLemmas.{Taken}
use Rattle.ppp_trace.proofs.sections.take_lines.Given as goal

-- These lines were taken so far.
abbrev pub invariant-lines : goal.invariant-lines
invariant-lines l = Taken l.text l.rest l.copied.items l.count l.long × (l.count ≤ l.most)

abbrev pub decreases-lines : goal.decreases-lines
decreases-lines l = l.most - l.count
