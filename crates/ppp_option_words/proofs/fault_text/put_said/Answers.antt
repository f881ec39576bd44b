use Rattle.ppp_outside.proofs.PutLemmas.{puts_then}
use Rattle.ppp_option_words.proofs.fault_text.put_said.Goals as goal

pub returns : goal.returns
returns g c =
    let word = rw c.as_slice.ensures at c.put-2.ensures in
    puts_then (puts_then c.put.ensures word) c.put-3.ensures
