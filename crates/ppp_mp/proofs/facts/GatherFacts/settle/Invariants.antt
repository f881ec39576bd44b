use Rattle.std.proofs.Common.{◌≡◌, ◌+◌, ◌*◌, ◌≤◌}
use Rattle.ppp_mp.specs.Places.{tally, waits}
use Rattle.ppp_mp.specs.Facts.{members_in}
use Rattle.ppp_mp.proofs.SettlingLemmas.{Settling}
use Rattle.ppp_mp.proofs.facts.GatherFacts.settle.Given as goal

abbrev pub invariant-rules : goal.invariant-rules
invariant-rules l = record {
  settling : Settling l.initial.self l.initial.given l.bound l.self l.given l.left;
  looks : l.self.places.looks + 3 * l.self.places.end ≤ l.initial.self.places.looks + 3 * l.initial.self.places.end;
  rose : l.initial.self.places.looks ≤ l.self.places.looks;
  members : members_in l.self ≡ members_in l.initial.self;
}

abbrev pub decreases-rules : goal.decreases-rules
decreases-rules l = l.left + tally waits l.self.places.pieces 128
