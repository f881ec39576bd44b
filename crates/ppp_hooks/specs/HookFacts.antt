-- How the machine's facts go on, and for which past they stand. The newest mark of a past comes first.
use Rattle.std.specs.Prelude.{ℕ, ◌+◌, ◌≡◌, ◌==◌, Bool, true, false, Option, None, Some, List, [], ◌∷◌, option_map, IfSome, if◌then◌else◌}
use Rattle.ppp_outside.specs.declared.hook_words.HookArgs.{HookArgs}
use Rattle.ppp_outside.specs.declared.spawner.ScriptEnd.{ScriptEnd}
use Rattle.ppp_hooks.specs.declared.facts.HookFacts.{HookFacts}
use Rattle.ppp_hooks.specs.declared.facts.Opening.{Opening}
use Rattle.ppp_hooks.specs.declared.facts.Start.{Start}
use Rattle.ppp_hooks.specs.HookMark.{HookMark, Started}
use Rattle.ppp_hooks.specs.HookPast.{starts_in, ends_in, not_started_in, not_started_by, open_in, greatest_in, last_in, IsLawful, IsSettled}

-- a start's direction and opening, as marks have it
abbrev pub start_key : Start → Bool × ℕ
start_key s = (s.up, s.opening.number)

-- an opening's number
abbrev pub opening_number : Option Opening → Option ℕ
opening_number o = option_map (λ (x : Opening). x.number) o

-- The facts are those of this past, which is lawful.
pub record Keeps (facts : HookFacts) (past : List HookMark) : Type 0 where
  pub now_open : opening_number facts.now_open ≡ open_in past
  pub last : option_map start_key facts.last ≡ last_in past
  pub greatest : facts.greatest ≡ greatest_in past
  pub starts : facts.starts ≡ starts_in past
  pub ends : facts.ends ≡ ends_in past
  pub not_started : facts.not_started ≡ not_started_in past
  pub lawful : IsLawful past

-- The machine stands for this past: its facts are those of the past, which is lawful, and settled while no script runs.
pub record StandsFor (facts : HookFacts) (past : List HookMark) : Type 0 where
  pub keeps : Keeps facts past
  pub settled : IsSettled past

-- The facts have, of each opening that they name, the arguments that are given here by its number.
pub record HasArgs (given : ℕ → HookArgs) (facts : HookFacts) : Type 0 where
  pub now_open : IfSome facts.now_open (λ o. o.args ≡ given o.number)
  pub last : IfSome facts.last (λ s. s.opening.args ≡ given s.opening.number)

-- the mark of a start
abbrev pub start_mark : Option Start → List HookMark
start_mark None = []
start_mark (Some s) = Started s.up s.opening.number ∷ []

-- what a call has started, by the facts before it and after it
abbrev pub started : HookFacts → HookFacts → List HookMark
started old new = if new.starts == old.starts then [] else start_mark new.last

-- an up of the opening that is open, where one is
abbrev pub up_of : Option Opening → Option Start
up_of None = None
up_of (Some o) = Some (record { up = true; opening = o })

-- whether this opening is open
abbrev pub is_opening_open : ℕ → Option Opening → Bool
is_opening_open n None = false
is_opening_open n (Some o) = o.number == n

-- the down of an up, unless its opening is open
abbrev pub down_of : Opening → Option Opening → Option Start
down_of opening now_open =
    if is_opening_open opening.number now_open then None else Some (record { up = false; opening = opening })

-- the start that is due while no script runs
abbrev pub start_due : Option Start → Option Opening → Option Start
start_due None now_open = up_of now_open
start_due (Some s) now_open = if s.up then down_of s.opening now_open else up_of now_open

abbrev pub with_start : HookFacts → Option Start → HookFacts
with_start facts None = facts
with_start facts (Some s) = record facts { last = Some s; starts = facts.starts + 1 }

-- after the start that is due, if one is
abbrev pub settled : HookFacts → HookFacts
settled facts = if facts.ends == facts.starts then with_start facts (start_due facts.last facts.now_open) else facts

abbrev pub with_open : HookFacts → ℕ → HookArgs → HookFacts
with_open facts n args = record facts { now_open = Some (record { number = n; args = args }); greatest = n }

abbrev pub with_closed : HookFacts → HookFacts
with_closed facts = record facts { now_open = None }

abbrev pub with_end : HookFacts → ScriptEnd → HookFacts
with_end facts answer = record facts { ends = facts.ends + 1; not_started = facts.not_started + not_started_by answer }

-- a machine that was just made
abbrev pub no_facts : HookFacts
no_facts = record { now_open = None; last = None; greatest = 0; starts = 0; ends = 0; not_started = 0 }
