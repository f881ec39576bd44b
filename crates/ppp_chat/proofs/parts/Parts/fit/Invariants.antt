use Rattle.std.proofs.Common.{◌≡◌, ◌≤◌, nat_le, length}
use Rattle.ppp_chat.specs.Words.{fits, with_hyphens}
use Rattle.ppp_chat.proofs.parts.Parts.fit.Given as goal

abbrev pub invariant-fitting : goal.invariant-fitting
invariant-fitting l = record {
  same : fits l.self ≡ nat_le (with_hyphens l.left) l.room;
  within : l.room ≤ 513;
}

abbrev pub decreases-fitting : goal.decreases-fitting
decreases-fitting l = length l.left
