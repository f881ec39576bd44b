use Rattle.ppp_outside.proofs.PutLemmas.{puts_then}
use Rattle.ppp_replay.proofs.text.put_running.Goals as goal

pub returns-in-Some : goal.returns-in-Some
returns-in-Some g c =
    let number = rw c.from.ensures at c.put_number.ensures in
    rw c.in-Some.is (puts_then c.put-in-Some.ensures number)
