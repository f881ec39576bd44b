use Rattle.ppp_replay.proofs.run.replay_full.Goals as goal

pub returns-in-Err-Bad : goal.returns-in-Err-Bad
returns-in-Err-Bad g c =
    let fault = rw c.in-Err-Bad.field-0-is at c.in-Err-Bad.ensures in
    rw c.refuse.ensures.ending (c.in-Err-Bad.fault, fault, rw c.in-Err-Bad.fault-is at c.refuse.ensures.line)
