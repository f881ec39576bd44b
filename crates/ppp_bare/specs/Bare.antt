-- What contracts see of one automaton with its ip scripts.
use Rattle.std.specs.Prelude.{◌==◌, ◌≡◌, Bool, List, [], ◌∷◌, is_some}
use Rattle.ppp_base.specs.declared.hook_target.HookTarget.TheVariants.{Unit as OfUnit}
use Rattle.ppp_fsm.specs.Fsm.{Automaton}
use Rattle.ppp_hooks.specs.HookFacts.{HasArgs}
use Rattle.ppp_hooks.specs.HookPast.{open_in}
use Rattle.ppp_mark.specs.declared.mark.Mark.{Mark}
use Rattle.ppp_mark.specs.ScriptLog.{IsKept, ScriptLogState}
use Rattle.ppp_mark.specs.Scripts.{LogLaw, LogSettled, said_in}
use Rattle.ppp_outside.specs.declared.hook_words.HookArgs.{HookArgs}
use Rattle.ppp_bare.specs.declared.bare.TheConstants.{MOST_MARKS}

-- the automaton, and its scripts with their log
pub record BareState (S : Type 0) : Type 0 where
  pub automaton : Automaton
  pub scripts : ScriptLogState S

-- the arguments of a bare automaton's scripts: unit 0, no device, peer and param, both addresses 0.0.0.0
abbrev pub bare_args : HookArgs
bare_args = record { unit = 0; device = []; peer = []; local = 0 ∷ 0 ∷ 0 ∷ 0 ∷ []; remote = 0 ∷ 0 ∷ 0 ∷ 0 ∷ []; param = [] }

-- The machine stands for what the log says, the scripts are those of unit 0 with these arguments, and the protocol is open as said.
pub record IsBare {S : Type 0} (is_open : Bool) (scripts : ScriptLogState S) : Type 0 where
  pub kept : IsKept scripts.machine scripts.log
  pub opened : is_some (open_in (said_in scripts.log.past)) ≡ is_open
  pub args : HasArgs (λ _. bare_args) scripts.machine.facts
  pub unit : scripts.machine.target ≡ OfUnit 0
  pub limit : scripts.log.limit ≡ MOST_MARKS

-- The log keeps the law of scripts, and while none runs they agree with the automaton.
pub record FollowsLaw (automaton : Automaton) (past : List Mark) : Type 0 where
  pub law : LogLaw 0 past
  pub settled : LogSettled past (automaton.state == 9)
