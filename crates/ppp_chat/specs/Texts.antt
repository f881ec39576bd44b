-- What the machine keeps in short: the abort strings by the places of their steps.
use Rattle.std.specs.Prelude.{ℕ, ◌-◌, ◌<◌, ◌≤◌, Option, Some, List, [], map, length, drop, slice_get}
use Rattle.std.specs.List.{AllByRecursion}
use Rattle.ppp_chat.specs.Settings.{Settings}
use Rattle.ppp_chat.specs.declared.directive.Directive.TheVariants.{Abort, ClearAbort, Timeout}
use Rattle.ppp_chat.specs.declared.directives.Directives.{Directives}
use Rattle.ppp_chat.specs.declared.step.Step.{Step}
use Rattle.ppp_chat.specs.declared.step.Step.TheVariants.{Direct, Expect, Met, Send, Pause}

-- the abort string of a step, and none of any other
abbrev pub abort_of : Option Step → List ℕ
abort_of (Some (Direct (Abort text))) = text
abort_of other = []

-- the abort string of the step at a place
abbrev pub abort_at : List Step → ℕ → List ℕ
abort_at steps place = abort_of (slice_get steps place)

-- what the directives have set, in a script with these steps
abbrev pub kept_settings : List Step → Directives → Settings
kept_settings steps d = record { aborts = map (abort_at steps) d.aborts.items; timeout = d.timeout_ms }

-- each place is below this one
abbrev pub AreBelow : ℕ → List ℕ → Type 0
AreBelow end places = AllByRecursion (λ (place : ℕ). place < end) places

-- no string is longer than the window
abbrev pub IsShort : Step → Type 0
IsShort (Direct (Abort text)) = length text ≤ 513
IsShort (Direct (ClearAbort text)) = length text ≤ 513
IsShort (Direct (Timeout seconds)) = Unit {0}
IsShort (Expect text) = length text ≤ 513
IsShort (Send octets) = length octets ≤ 513
IsShort Met = Unit {0}
IsShort (Pause milliseconds) = Unit {0}

abbrev pub AreShort : List Step → Type 0
AreShort steps = AllByRecursion IsShort steps

-- the octets that a window has room for: the last 513
abbrev pub latest : List ℕ → List ℕ
latest octets = drop (length octets - 513) octets
