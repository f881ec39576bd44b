use Rattle.ppp_outside.proofs.PutLemmas.{puts_then}
use Rattle.ppp_option_words.proofs.fault_text.put_quote.Goals as goal

pub returns : goal.returns
returns g c =
    let name = rw c.as_slice.ensures at c.put-2.ensures in
    puts_then (puts_then (puts_then (puts_then c.put.ensures name) c.put-3.ensures) c.put_number.ensures) c.put-4.ensures
