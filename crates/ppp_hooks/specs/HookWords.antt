-- The words of a start (pppd(8), "Scripts"). A down has those of its up's opening.
use Rattle.std.specs.Prelude.{ℕ, Bool, true, false, Option, None, Some, List, option_map}
use Rattle.ppp_base.specs.declared.hook_target.HookTarget.{HookTarget}
use Rattle.ppp_base.specs.declared.hook_target.HookTarget.TheVariants.{Link, Unit as OfUnit}
use Rattle.ppp_outside.specs.declared.hook_words.HookArgs.{HookArgs}
use Rattle.ppp_outside.specs.declared.hook_words.HookWords.{HookWords}
use Rattle.ppp_outside.specs.declared.hook_words.HookScript.{HookScript}
use Rattle.ppp_outside.specs.declared.hook_words.HookScript.TheVariants.{IpUp, IpDown, AuthUp, AuthDown}
use Rattle.ppp_hooks.specs.declared.facts.Start.{Start}
use Rattle.ppp_hooks.specs.HookMark.{HookMark}
use Rattle.ppp_hooks.specs.HookPast.{last_in}

-- the script of a direction: a link has the auth scripts, a unit the ip scripts
abbrev pub script_for : HookTarget → Bool → HookScript
script_for (Link link) true = AuthUp
script_for (Link link) false = AuthDown
script_for (OfUnit unit) true = IpUp
script_for (OfUnit unit) false = IpDown

-- the words of a start, where the openings have these arguments by their numbers
abbrev pub words_for : HookTarget → (ℕ → HookArgs) → Bool × ℕ → HookWords
words_for target given start = record { script = script_for target start.0; args = given start.1 }

-- the words of the last start of a past, whose newest mark comes first
abbrev pub words_in : HookTarget → (ℕ → HookArgs) → List HookMark → Option HookWords
words_in target given past = option_map (words_for target given) (last_in past)

-- the words of a start with the arguments that it was given
abbrev pub words_of_start : HookTarget → Option Start → Option HookWords
words_of_start target None = None
words_of_start target (Some s) = Some (record { script = script_for target s.up; args = s.opening.args })
