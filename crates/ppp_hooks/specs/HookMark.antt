-- What the openings of one link or unit and its scripts leave behind (pppd(8), "Scripts").
use Rattle.std.specs.Prelude.{ℕ, Bool, true, false, List, [], ◌∷◌}
use Rattle.ppp_outside.specs.declared.spawner.ScriptEnd.{ScriptEnd}

-- The protocol opens under a number, or closes. A script is started, up or down, for an opening.
-- A script has ended, under the number of its job.
pub data HookMark : Type 0 where
  Opened : (opening : ℕ) → HookMark
  Closed : (opening : ℕ) → HookMark
  Started : (up : Bool) → (opening : ℕ) → HookMark
  Ended : (answer : ScriptEnd) → (job : ℕ) → HookMark

abbrev pub is_opening : HookMark → Bool
is_opening (Opened n) = true
is_opening (Closed n) = false
is_opening (Started up n) = false
is_opening (Ended answer job) = false

abbrev pub is_closing : HookMark → Bool
is_closing (Opened n) = false
is_closing (Closed n) = true
is_closing (Started up n) = false
is_closing (Ended answer job) = false

abbrev pub is_start : HookMark → Bool
is_start (Opened n) = false
is_start (Closed n) = false
is_start (Started up n) = true
is_start (Ended answer job) = false

abbrev pub is_end : HookMark → Bool
is_end (Opened n) = false
is_end (Closed n) = false
is_end (Started up n) = false
is_end (Ended answer job) = true

-- the directions of the starts, in order
abbrev pub directions : List HookMark → List Bool
directions [] = []
directions (Opened n ∷ marks) = directions marks
directions (Closed n ∷ marks) = directions marks
directions (Started up n ∷ marks) = up ∷ directions marks
directions (Ended answer job ∷ marks) = directions marks
