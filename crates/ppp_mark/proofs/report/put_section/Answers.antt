use Rattle.ppp_outside.proofs.PutLemmas.{puts_then}
use Rattle.ppp_mark.proofs.report.put_section.Goals as goal

pub returns-in-Link : goal.returns-in-Link
returns-in-Link g c =
    let word = rw c.number.ensures.value at c.put_word.ensures in
    rw c.in-Link.is (puts_then (puts_then word c.put_marks.ensures) c.put_status.ensures)
