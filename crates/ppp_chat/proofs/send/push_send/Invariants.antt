use Rattle.std.proofs.Common.{◌≡◌, ◌≤◌, ◌+◌, ℕ, List, [], ◌++◌, length}
use Rattle.ppp_chat.specs.Pieces.{text_of}
use Rattle.ppp_chat.specs.Steps.{flat_send}
use Rattle.ppp_chat.specs.Words.{parts_behind}
use Rattle.ppp_chat.proofs.send.push_send.Given as goal

abbrev pub invariant-sending : goal.invariant-sending
invariant-sending l = record {
  goes : (return : List ℕ) → l.initial.steps ++ flat_send (parts_behind [] return l.pieces) ≡ l.steps ++ flat_send (parts_behind l.octets.items return l.left);
  room : length l.octets.items + length (text_of l.left) ≤ 512;
}

abbrev pub decreases-sending : goal.decreases-sending
decreases-sending l = length l.left
