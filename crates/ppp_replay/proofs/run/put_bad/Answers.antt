use Rattle.std.proofs.Common.{append-nil}
use Rattle.ppp_outside.proofs.PutLemmas.{all_put, puts_then}
use Rattle.ppp_replay.proofs.run.put_bad.Goals as goal

pub returns : goal.returns
returns g c =
    let line = puts_then (puts_then c.put.ensures c.put_number.ensures) c.put-2.ensures in
    let put = rw (append-nil, c.new-writer.ensures) at (puts_then line c.finish.ensures) in
    let all = all_put c.finish.result _ _ _ put in
    record { whole = all.0; part = all.1 }
