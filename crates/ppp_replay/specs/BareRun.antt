-- The run of a bare trace: one automaton (RFC 1661, section 4) with its ip scripts (pppd(8), "Scripts").
use Rattle.std.specs.Prelude.{ℕ, ◌==◌, Bool, nat_eq, Some, List, [], ◌∷◌, take, reverse, if◌then◌else◌}
use Rattle.std.specs.Option.{option_eq}
use Rattle.ppp_bare.specs.Acts.{after_acts}
use Rattle.ppp_fsm.specs.Fsm.{Automaton, acts_of, after}
use Rattle.ppp_hooks.specs.HookLaw.{HookLaw}
use Rattle.ppp_hooks.specs.HookMark.{HookMark, Ended}
use Rattle.ppp_hooks.specs.HookPast.{running_in}
use Rattle.ppp_hooks.specs.HookRule.{with_due}
use Rattle.ppp_hooks.specs.Settled.{Settled}
use Rattle.ppp_trace.specs.declared.step.BareStep.{BareStep}
use Rattle.ppp_trace.specs.declared.step.BareStep.TheVariants.{Event, End}

-- the automaton, and the openings, closings, starts and ends so far, the newest first
pub record BareRun : Type 0 where
  pub automaton : Automaton
  pub past : List HookMark

-- whether it is this one
abbrev pub runs_job : ℕ → List HookMark → Bool
runs_job job past = option_eq nat_eq (running_in past) (Some job)

-- One step. The end of a job that doesn't run does nothing.
unfoldable pub after_step : BareRun → BareStep → BareRun
after_step run (Event event) = record {
  automaton = after run.automaton event;
  past = after_acts (acts_of run.automaton event) run.past;
}
after_step run (End job answer) = if runs_job job run.past then record run { past = with_due (Ended answer job ∷ run.past) } else run

-- before the first step: Initial, with counter 0 and the values of the restart counter that a bare trace has
abbrev pub run_start : BareRun
run_start = record { automaton = record { configure = 10; terminate = 3; state = 0; counter = 0 }; past = [] }

abbrev pub run_from : BareRun → List BareStep → BareRun
run_from run [] = run
run_from run (step ∷ steps) = run_from (after_step run step) steps

-- the run of steps
abbrev pub run_of : List BareStep → BareRun
run_of steps = run_from run_start steps

-- The starts alternate, ip-up first, one at a time, each for its opening; and while none runs, the last was ip-up exactly
-- where the automaton is in Opened.
pub record KeepsScripts (run : BareRun) : Type 0 where
  pub law : HookLaw 0 (reverse run.past)
  pub settled : Settled (reverse run.past) (run.automaton.state == 9)

-- It holds after each of these steps.
abbrev pub Headline : List BareStep → Type 0
Headline steps = (n : ℕ) → KeepsScripts (run_of (take n steps))
