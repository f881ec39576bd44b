use Rattle.std.proofs.Common.{append-nil}
use Rattle.ppp_outside.proofs.PutLemmas.{all_put, puts_then}
use Rattle.ppp_mark.proofs.report.write_section.Goals as goal

pub returns : goal.returns
returns g c =
    let put = rw (append-nil, c.new-writer.ensures) at (puts_then c.put_section.ensures c.finish.ensures) in
    let all = all_put c.finish.result _ _ _ put in
    record { whole = all.0; part = all.1 }
