use Rattle.std.proofs.Common.{◌≡◌, ◌<◌, ◌≤◌, ◌+◌, ℕ, None}
use Rattle.ppp_mp.specs.Places.{place}
use Rattle.ppp_mp.proofs.places.Places.lose.Given as goal

abbrev pub invariant-loop-i : goal.invariant-loop-i
invariant-loop-i l = record {
  gone : (j : ℕ) → j < l.i → place l.self.pieces j ≡ None;
  left : (j : ℕ) → l.i ≤ j → place l.self.pieces j ≡ place l.initial.self.pieces j;
  base : l.self.base ≡ l.initial.self.base;
  end : l.self.end ≡ l.initial.self.end;
  looks : l.self.looks ≤ l.initial.self.looks + l.i;
  rose : l.initial.self.looks ≤ l.self.looks;
}
