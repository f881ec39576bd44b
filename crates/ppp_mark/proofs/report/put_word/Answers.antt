use Rattle.ppp_outside.proofs.PutLemmas.{puts_then}
use Rattle.ppp_mark.proofs.report.put_word.Goals as goal

pub returns : goal.returns
returns g c =
    let number = rw c.from.ensures at c.put_number.ensures in
    puts_then (puts_then c.put.ensures number) c.put-2.ensures
