-- Lists of the calls of one machine, the newest first, and the marks that they leave.
use Rattle.std.specs.Prelude.{ℕ, ◌+◌, ◌<◌, ◌≡◌, Bool, true, false, nat_lt, Option, None, Some, is_none, List, [], ◌∷◌, ◌++◌, ⊤, IsSome}
use Rattle.ppp_outside.specs.declared.hook_words.HookArgs.{HookArgs}
use Rattle.ppp_outside.specs.declared.spawner.ScriptEnd.{ScriptEnd}
use Rattle.ppp_hooks.specs.HookFacts.{StandsFor, HasArgs}
use Rattle.ppp_hooks.specs.HookMark.{HookMark, Opened, Closed, Ended}
use Rattle.ppp_hooks.specs.HookPast.{starts_in, ends_in, open_in, greatest_in}
use Rattle.ppp_hooks.specs.HookRule.{with_due}
use Rattle.ppp_hooks.specs.HookState.{HookState}

-- the protocol opens or closes, the job is asked for, or a job that ended so is taken back
pub data HookCall : Type 0 where
  Opens : (n : ℕ) → HookCall
  Closes : HookCall
  TakesJob : HookCall
  Ends : (answer : ScriptEnd) → HookCall

abbrev pub closed_marks : Option ℕ → List HookMark
closed_marks None = []
closed_marks (Some n) = Closed n ∷ []

-- what calls leave, the newest mark first: after each opening, closing and end stands the start that is due then
abbrev pub marks_of : List HookCall → List HookMark
marks_of [] = []
marks_of (Opens n ∷ calls) = with_due (Opened n ∷ marks_of calls)
marks_of (Closes ∷ calls) = with_due (closed_marks (open_in (marks_of calls)) ++ marks_of calls)
marks_of (TakesJob ∷ calls) = marks_of calls
marks_of (Ends answer ∷ calls) = with_due (Ended answer (ends_in (marks_of calls) + 1) ∷ marks_of calls)

-- whether a script runs: it was started and has not ended
abbrev pub is_running : List HookCall → Bool
is_running calls = nat_lt (ends_in (marks_of calls)) (starts_in (marks_of calls))

-- whether the job that runs was taken
abbrev pub is_taken : List HookCall → Bool
is_taken [] = false
is_taken (Opens n ∷ calls) = is_taken calls
is_taken (Closes ∷ calls) = is_taken calls
is_taken (TakesJob ∷ calls) = is_running calls
is_taken (Ends answer ∷ calls) = false

-- Each call comes where its condition holds: an opening while the protocol is closed, with a number above every former one;
-- a closing while it is open; an end of a job that was taken.
abbrev pub AreAllowed : List HookCall → Type 0
AreAllowed [] = ⊤
AreAllowed (Opens n ∷ calls) = (open_in (marks_of calls) ≡ None) × (greatest_in (marks_of calls) < n) × AreAllowed calls
AreAllowed (Closes ∷ calls) = IsSome (open_in (marks_of calls)) × AreAllowed calls
AreAllowed (TakesJob ∷ calls) = AreAllowed calls
AreAllowed (Ends answer ∷ calls) = (is_taken calls ≡ true) × AreAllowed calls

-- The machine stands for this list of calls, in which the openings had these arguments by their numbers.
pub record StandsForCalls {S : Type 0} (given : ℕ → HookArgs) (m : HookState S) (calls : List HookCall) : Type 0 where
  pub allowed : AreAllowed calls
  pub marks : StandsFor m.facts (marks_of calls)
  pub args : HasArgs given m.facts
  pub taken : is_none m.spawner ≡ is_taken calls
