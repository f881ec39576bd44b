use Rattle.ppp_outside.proofs.PutLemmas.{puts_then}
use Rattle.ppp_mark.proofs.report.put_mark.Goals as goal

pub returns : goal.returns
returns g c =
    let word = rw c.name.ensures at c.put-2.ensures in
    let x = rw c.from.ensures at c.put_number-2.ensures in
    let y = rw c.from-2.ensures at c.put_number-3.ensures in
    let z = rw c.from-3.ensures at c.put_number-4.ensures in
    puts_then (puts_then (puts_then (puts_then (puts_then (puts_then (puts_then (puts_then (puts_then
    c.put_number.ensures c.put.ensures) word) c.put-3.ensures) x) c.put-4.ensures) y) c.put-5.ensures) z) c.put-6.ensures
