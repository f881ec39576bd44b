-- How a step of a bare trace is spelled.
use Rattle.std.specs.Prelude.{◌≡◌, ℕ, ◌<◌, ◌^◌, ⊤, List, ◌++◌, codes}
use Rattle.std.specs.Fmt.{decimal}
use Rattle.ppp_outside.specs.declared.spawner.ScriptEnd.{ScriptEnd}
use Rattle.ppp_outside.specs.declared.spawner.ScriptEnd.TheVariants.{Exit, Killed, NotStarted}
use Rattle.ppp_trace.specs.declared.step.BareStep.{BareStep}
use Rattle.ppp_trace.specs.declared.step.BareStep.TheVariants as steps
use Rattle.ppp_trace.specs.Words.{word_of}

-- how a script ended
abbrev pub word_of_answer : ScriptEnd → List ℕ
word_of_answer (Exit status) = codes "exit " ++ decimal status
word_of_answer Killed = codes "killed"
word_of_answer NotStarted = codes "none"

-- the line of a step
abbrev pub word_of_step : BareStep → List ℕ
word_of_step (steps.Event event) = word_of event
word_of_step (steps.End job answer) = codes "end " ++ decimal job ++ codes " " ++ word_of_answer answer

-- an exit status is an octet
abbrev pub IsAnswer : ScriptEnd → Type 0
IsAnswer (Exit status) = status < 2 ^ 8
IsAnswer Killed = ⊤
IsAnswer NotStarted = ⊤

-- a job's number is below 2^32
abbrev pub IsStep : BareStep → Type 0
IsStep (steps.Event event) = ⊤
IsStep (steps.End job answer) = (job < 2 ^ 32) × IsAnswer answer

-- The line is this step.
pub record Spells (line : List ℕ) (step : BareStep) : Type 0 where
  pub is_step : IsStep step
  pub word : line ≡ word_of_step step

-- The line is no step.
abbrev pub IsNoStep : List ℕ → Type 0
IsNoStep line = (step : BareStep) → Spells line step → ⊥
