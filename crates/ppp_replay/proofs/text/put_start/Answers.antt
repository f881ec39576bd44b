use Rattle.ppp_outside.proofs.PutLemmas.{puts_then}
use Rattle.ppp_replay.proofs.text.put_start.Goals as goal

pub returns : goal.returns
returns g c =
    let word = rw c.start_word.ensures at c.put-2.ensures in
    let number = rw c.from.ensures at c.put_number.ensures in
    rw c.in-Some.is (puts_then word number)
