use Rattle.std.proofs.Common.{◌≡◌, ◌+◌, ℕ, [], map, length}
use Rattle.std.specs.Global.{Vec}
use Rattle.ppp_chat.specs.Steps.{directives_in}
use Rattle.ppp_chat.specs.Words.{in_twos, items_behind, script_of}
use Rattle.ppp_chat.proofs.WordsRead.{with_steps}
use Rattle.ppp_chat.proofs.script.Script.read.Given as goal

abbrev pub invariant-reading : goal.invariant-reading
invariant-reading l = record {
  goes : with_steps [] (script_of (map (λ (word : Vec ℕ). word.items) l.words))
      ≡ with_steps l.steps (items_behind l.number (directives_in l.steps) (in_twos (map (λ (word : Vec ℕ). word.items) l.left)));
  numbered : l.number + length l.left ≡ length l.words + 1;
}

abbrev pub decreases-reading : goal.decreases-reading
decreases-reading l = length l.left
