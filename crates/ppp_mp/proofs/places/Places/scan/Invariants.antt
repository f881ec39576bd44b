use Rattle.std.proofs.Common.{◌≡◌, ◌≤◌, ◌+◌}
use Rattle.ppp_mp.specs.Places.{BegunThere}
use Rattle.ppp_mp.proofs.places.Places.scan.Given as goal

abbrev pub invariant-loop-len : goal.invariant-loop-len
invariant-loop-len l = record {
  begun : BegunThere l.initial.self.pieces l.len;
  same : l.self ≡ record l.initial.self { looks = l.self.looks };
  looks : l.self.looks ≤ l.initial.self.looks + l.len;
  rose : l.initial.self.looks ≤ l.self.looks;
}
