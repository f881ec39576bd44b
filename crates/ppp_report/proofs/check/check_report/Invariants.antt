use Rattle.std.proofs.Common.{◌+◌, ◌≤◌, length}
use Rattle.ppp_mark.specs.Lines.{lines_of}
use Rattle.ppp_report.specs.Places.{At}
use Rattle.ppp_report.proofs.check.check_report.Given as goal

-- Whole sections were read, of which no line is bad.
abbrev pub invariant-sections : goal.invariant-sections
invariant-sections l =
    At (lines_of l.fn.report) l.at.links l.at.least (lines_of l.at.rest.now) l.at.line × (l.at.line + length l.at.rest.now ≤ length l.fn.report) × (l.at.links ≤ 16) × (l.at.least ≤ 16)

abbrev pub decreases-sections : goal.decreases-sections
decreases-sections l = length l.at.rest.now
