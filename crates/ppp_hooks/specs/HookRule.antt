-- Which script is started when: the rule that is looked at after each opening, closing and end (pppd(8), "Scripts").
-- The newest mark comes first.
use Rattle.std.specs.Prelude.{ℕ, Bool, true, false, Option, None, Some, List, [], ◌∷◌, ◌++◌, ◌==◌, if◌then◌else◌}
use Rattle.ppp_hooks.specs.HookMark.{HookMark, Started}
use Rattle.ppp_hooks.specs.HookPast.{starts_in, ends_in, open_in, last_in}

-- an up of the opening that is open, where one is
abbrev pub up_for : Option ℕ → Option (Bool × ℕ)
up_for None = None
up_for (Some n) = Some (true, n)

-- whether this opening is open
abbrev pub is_open : ℕ → Option ℕ → Bool
is_open n None = false
is_open n (Some m) = m == n

-- With the last start an up of an opening, its down is due unless that opening is open now.
-- With the last start a down or none, an up is due where an opening is open now.
abbrev pub due_for : Option (Bool × ℕ) → Option ℕ → Option (Bool × ℕ)
due_for None now_open = up_for now_open
due_for (Some start) now_open =
    if start.0 then (if is_open start.1 now_open then None else Some (false, start.1)) else up_for now_open

abbrev pub start_marks : Option (Bool × ℕ) → List HookMark
start_marks None = []
start_marks (Some start) = Started start.0 start.1 ∷ []

-- the start that is due after this past: none while a script runs
abbrev pub due_after : List HookMark → List HookMark
due_after past = if ends_in past == starts_in past then start_marks (due_for (last_in past) (open_in past)) else []

-- this past, and the start that is due after it
abbrev pub with_due : List HookMark → List HookMark
with_due past = due_after past ++ past
