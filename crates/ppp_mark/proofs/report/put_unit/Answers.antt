use Rattle.std.proofs.Common.{arith}
use Rattle.ppp_outside.proofs.PutLemmas.{puts_then}
use Rattle.ppp_mark.proofs.ReportLemmas.{unit_text}
use Rattle.ppp_mark.proofs.report.put_unit.Goals as goal

pub returns-in-len1-up : goal.returns-in-len1-up
returns-in-len1-up g c =
    let word = rw c.number.ensures.value at c.put_word.ensures in
    rw (unit_text c.args.unit c.args.marks.now (omega arith)) (puts_then word c.put_marks.ensures)
