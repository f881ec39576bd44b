use Rattle.std.proofs.Common.{◌≡◌, ◌<◌, ◌≤◌, ◌+◌, ℕ, None}
use Rattle.ppp_mp.specs.Places.{place}
use Rattle.ppp_mp.proofs.places.Places.stretch.Given as goal

abbrev pub invariant-loop-i : goal.invariant-loop-i
invariant-loop-i l = record {
  none : (j : ℕ) → j < l.i → place l.initial.self.pieces j ≡ None;
  same : l.self ≡ record l.initial.self { looks = l.self.looks };
  looks : l.self.looks + l.start ≤ l.initial.self.looks + l.i;
  rose : l.initial.self.looks ≤ l.self.looks;
}
