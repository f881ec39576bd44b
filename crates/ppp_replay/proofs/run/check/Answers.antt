use Rattle.ppp_replay.proofs.run.check.Goals as goal

pub returns-then-write_whole-clause-ends : goal.returns-then-write_whole-clause-ends
returns-then-write_whole-clause-ends g c =
    let read = rw c.in-Ok-Octets.field-0-is at c.in-Ok-Octets.ensures.ok in
    record {
      octets = c.in-Ok-Octets.octets.items;
      read = record { all = read.0; small = read.1; lawful = rw c.deref.ensures.value at c.in_default.ensures };
      wrote = c.if-write_whole.ensures.whole;
    }

pub returns-clause-ends : goal.returns-clause-ends
returns-clause-ends g c =
    let read = rw c.in-Ok-Octets.field-0-is at c.in-Ok-Octets.ensures.ok in
    record {
      octets = c.in-Ok-Octets.octets.items;
      read = record { all = read.0; small = read.1; lawful = rw c.deref.ensures.value at c.in_default.ensures };
      broke = c.if-write_whole.ensures.part;
    }
