use Rattle.std.proofs.Common.{◌≡◌, List, ℕ, ◌++◌, drop}
use Rattle.ppp_outside.specs.Writing.{Puts}
use Rattle.ppp_mark.specs.Log.{AreMarks}
use Rattle.ppp_mark.specs.Report.{mark_lines}
use Rattle.ppp_mark.proofs.report.put_marks.Given as goal

-- A front of the lines was put, and those of the marks that are left are the rest.
abbrev pub invariant-loop-mark : goal.invariant-loop-mark
invariant-loop-mark g l =
    let state = g.O.Sink.state in
    record {
      left : AreMarks (drop l.mark-index l.marks);
      put : (front : List ℕ) × Puts l.fn.writer l.writer (state l.fn.output) (state l.output) front
          × (front ++ mark_lines (drop l.mark-index l.marks) ≡ mark_lines l.marks);
    }
