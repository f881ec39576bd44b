use Rattle.std.proofs.Common.{length}
use Rattle.ppp_report.proofs.SectionLemmas.{SoFar}
use Rattle.ppp_report.proofs.section.read_marks.Given as goal

-- What was read are marks that keep the law.
abbrev pub invariant-reading : goal.invariant-reading
invariant-reading l = SoFar l.fn.of l.fn.text l.rest l.since l.count l.recent l.scripts

abbrev pub decreases-reading : goal.decreases-reading
decreases-reading l = length l.rest
