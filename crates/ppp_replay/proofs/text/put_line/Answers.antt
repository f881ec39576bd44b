use Rattle.ppp_outside.proofs.PutLemmas.{puts_then}
use Rattle.ppp_replay.specs.BareText.{line_of}
use Rattle.ppp_replay.proofs.text.put_line.Goals as goal

pub returns-clause-put : goal.returns-clause-put
unfolding line_of
returns-clause-put g c =
    let state = rw (c.from.ensures, c.state-state.ensures, c.put_told.ensures.run) at c.put_number-2.ensures in
    let counter = rw (c.from-2.ensures, c.counter-counter.ensures, c.put_told.ensures.run) at c.put_number-3.ensures in
    let start = rw (c.start_since-start.ensures, c.starts-before.ensures, c.put_told.ensures.run) at c.put_start.ensures in
    let running = rw (c.running.ensures, c.put_told.ensures.run) at c.put_running.ensures in
    puts_then (puts_then (puts_then (puts_then (puts_then (puts_then (puts_then (puts_then (puts_then
    c.put_number.ensures c.put.ensures) c.put_told.ensures.put) c.put-2.ensures) state) c.put-3.ensures) counter) start) running) c.put-4.ensures
