-- That there is room for the abort strings that a script sets: 50 at once.
use Rattle.std.specs.Prelude.{ℕ, ◌≡◌, ◌≤◌, ◌<◌, List, length, take}
use Rattle.ppp_chat.specs.Course.{obeyed}
use Rattle.ppp_chat.specs.Settings.{Settings, aborts_of}
use Rattle.ppp_chat.specs.Steps.{directives_in}
use Rattle.ppp_chat.specs.declared.directive.Directive.TheVariants.{Abort, ClearAbort, Timeout}
use Rattle.ppp_chat.specs.declared.step.Step.{Step}
use Rattle.ppp_chat.specs.declared.step.Step.TheVariants.{Direct, Expect, Met, Send, Pause}

-- At no place are more than 50 abort strings set at once.
abbrev pub AreFew : List Step → Type 0
AreFew steps = (count : ℕ) → length (aborts_of (directives_in (take count steps))) ≤ 50

-- These are the abort strings that the steps before a place have set.
abbrev pub AreSetAt : List Step → ℕ → List (List ℕ) → Type 0
AreSetAt steps place aborts = aborts ≡ aborts_of (directives_in (take place steps))

-- where a step sets an abort string, there is room for it beside so many
abbrev pub HasRoom : Step → ℕ → Type 0
HasRoom (Direct (Abort text)) count = count < 50
HasRoom (Direct (ClearAbort text)) count = Unit {0}
HasRoom (Direct (Timeout seconds)) count = Unit {0}
HasRoom (Expect text) count = Unit {0}
HasRoom Met count = Unit {0}
HasRoom (Send octets) count = Unit {0}
HasRoom (Pause milliseconds) count = Unit {0}

-- what a step sets, if it is a directive
abbrev pub settings_with : Step → Settings → Settings
settings_with (Direct directive) s = obeyed directive s
settings_with (Expect text) s = s
settings_with Met s = s
settings_with (Send octets) s = s
settings_with (Pause milliseconds) s = s
