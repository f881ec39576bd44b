use Rattle.ppp_replay.proofs.RunLemmas.{read_ends}
use Rattle.ppp_replay.proofs.run.replay.Goals as goal

pub returns-in-Ok-Octets-clause-ends : goal.returns-in-Ok-Octets-clause-ends
returns-in-Ok-Octets-clause-ends g c =
    let read = rw c.in-Ok-Octets.field-0-is at c.in-Ok-Octets.ensures.ok in
    read_ends (g.O.Sink.state c.args.output.now) (g.O.Sink.state c.replay_octets.new.output) c.replay_octets.result c.in-Ok-Octets.octets.items read.0 read.1 (rw c.deref.ensures.value at c.replay_octets.ensures)
