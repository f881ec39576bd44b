use Rattle.std.proofs.Common.{◌≡◌, ℕ, ◌≤◌, not, nat_eq, List, map, filter, take, length}
use Rattle.std.specs.Cmp.Lexicographic.{pointwise}
use Rattle.ppp_chat.specs.Texts.{AreBelow, abort_at}
use Rattle.ppp_chat.proofs.directives.Directives.clear_abort.Given as goal

abbrev pub invariant-loop-place : goal.invariant-loop-place
invariant-loop-place l = record {
  kept : map (abort_at l.steps) l.kept.items ≡ filter (λ (abort : List ℕ). not (pointwise nat_eq abort l.text)) (map (abort_at l.steps) (take l.place-index l.place-items));
  below : (end : ℕ) → AreBelow end l.place-items → AreBelow end l.kept.items;
  few : length l.kept.items ≤ l.place-index;
}
