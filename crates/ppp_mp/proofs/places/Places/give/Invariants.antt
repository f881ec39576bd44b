use Rattle.std.proofs.Common.{◌≡◌, ◌<◌, ◌≤◌, ◌+◌, ℕ, None, true, false, length}
use Rattle.ppp_mp.specs.Places.{place, joined_there}
use Rattle.ppp_mp.proofs.places.Places.give.Given as goal

abbrev pub invariant-loop-i : goal.invariant-loop-i
invariant-loop-i l = record {
  gone : (j : ℕ) → j < l.i → place l.self.pieces j ≡ None;
  left : (j : ℕ) → l.i ≤ j → place l.self.pieces j ≡ place l.initial.self.pieces j;
  base : l.self.base ≡ l.initial.self.base;
  end : l.self.end ≡ l.initial.self.end;
  looks : l.self.looks ≤ l.initial.self.looks + l.i;
  within : length l.packet ≤ l.limit;
  fits : l.fits ≡ true → l.packet ≡ joined_there l.initial.self.pieces l.i;
  too_long : l.fits ≡ false → l.limit < length (joined_there l.initial.self.pieces l.i);
  rose : l.initial.self.looks ≤ l.self.looks;
}
