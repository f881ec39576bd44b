use Rattle.std.proofs.Common.{◌≡◌, ◌≤◌, ◌++◌, false, length}
use Rattle.ppp_chat.specs.Steps.{steps_left}
use Rattle.ppp_chat.specs.Words.{with_hyphens}
use Rattle.ppp_chat.proofs.parts.Parts.push.Given as goal

abbrev pub invariant-parts : goal.invariant-parts
invariant-parts l = record {
  goes : l.initial.steps ++ steps_left false l.self ≡ l.steps ++ steps_left l.is_sent l.left;
  room : with_hyphens l.left ≤ 513;
}

abbrev pub decreases-parts : goal.decreases-parts
decreases-parts l = length l.left
