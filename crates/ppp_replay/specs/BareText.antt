-- What is written for a bare trace.
use Rattle.std.specs.Prelude.{ℕ, ◌+◌, ◌==◌, Bool, Option, None, Some, List, [], ◌∷◌, ◌++◌, codes, if◌then◌else◌}
use Rattle.std.specs.List.{flat_map}
use Rattle.std.specs.Fmt.{decimal}
use Rattle.ppp_fsm.specs.declared.acts.Act.{Act}
use Rattle.ppp_fsm.specs.Fsm.{acts_of}
use Rattle.ppp_hooks.specs.HookMark.{HookMark}
use Rattle.ppp_hooks.specs.HookPast.{starts_in, last_in, running_in}
use Rattle.ppp_trace.specs.declared.step.BareStep.{BareStep}
use Rattle.ppp_trace.specs.declared.step.BareStep.TheVariants.{Event, End}
use Rattle.ppp_replay.specs.BareRun.{BareRun, after_step, run_start, runs_job}
use Rattle.ppp_replay.specs.ActNames.{name_of}

-- an act that follows another one
abbrev pub next_act : Act → List ℕ
next_act act = codes "," ++ name_of act

-- the acts, joined by commas
abbrev pub acts_text : List Act → List ℕ
acts_text [] = codes "-"
acts_text (act ∷ acts) = name_of act ++ flat_map next_act acts

-- what a step does: its acts, or whether its end was the running job's
abbrev pub told_text : BareRun → BareStep → List ℕ
told_text run (Event event) = acts_text (acts_of run.automaton event)
told_text run (End job answer) = if runs_job job run.past then codes "-" else codes "stale"

-- a start, up or down, and its opening
abbrev pub start_text : Option (Bool × ℕ) → List ℕ
start_text None = []
start_text (Some start) = (if start.0 then codes " ip-up " else codes " ip-down ") ++ decimal start.1

-- the last start of a past, if there were so many starts before it
abbrev pub start_since : ℕ → List HookMark → Option (Bool × ℕ)
start_since before past = if starts_in past == before then None else last_in past

-- the job that runs, or that none does
abbrev pub running_text : Option ℕ → List ℕ
running_text None = codes " rest"
running_text (Some job) = codes " run " ++ decimal job

-- the line of a step: its number, what it did, state and counter after it, the script that was started, the job that runs
unfoldable pub line_of : ℕ → BareRun → BareStep → List ℕ
line_of number run step =
    let next = after_step run step in
    decimal number ++ codes " " ++ told_text run step ++ codes " " ++ decimal next.automaton.state ++ codes "/" ++ decimal next.automaton.counter
    ++ start_text (start_since (starts_in run.past) next.past) ++ running_text (running_in next.past) ++ codes "\n"

-- the lines of steps from a run on, of which the first has this number
abbrev pub lines_from : ℕ → BareRun → List BareStep → List ℕ
lines_from number run [] = []
lines_from number run (step ∷ steps) = line_of number run step ++ lines_from (number + 1) (after_step run step) steps

-- the text of a bare trace with these steps
unfoldable pub bare_text : List BareStep → List ℕ
bare_text steps = lines_from 1 run_start steps
