use Rattle.ppp_replay.proofs.RunLemmas.{either_way}
use Rattle.ppp_replay.proofs.run.refuse.Goals as goal

pub returns-clause-line : goal.returns-clause-line
returns-clause-line g c =
    let whole = rw (c.as_slice.ensures.value, c.fault_text.ensures) at c.write_whole.ensures.whole in
    let part = rw (c.as_slice.ensures.value, c.fault_text.ensures) at c.write_whole.ensures.part in
    either_way c.write_whole.result _ _ whole part
