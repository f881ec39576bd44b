-- What the program answers, and why.
use Rattle.std.specs.Prelude.{◌≡◌, ℕ, ◌<◌, ◌≤◌, ◌⊎◌, ⊤, Option, None, Some, List, [], ◌∷◌, ◌++◌, length, codes, if◌then◌else◌}
use Rattle.std.specs.Fmt.{decimal}
use Rattle.std.specs.Str.{bytes_eq}
use Rattle.std.specs.Io.KnownBytes.{IsAtEnd}
use Rattle.ppp_outside.specs.Counts.{Rose}
use Rattle.ppp_outside.specs.Reading.{Gives, GivesAll}
use Rattle.ppp_outside.specs.Sink.{SinkState}
use Rattle.ppp_outside.specs.Source.{SourceState}
use Rattle.ppp_outside.specs.Writing.{Breaks, Rests, Writes}
use Rattle.ppp_trace.specs.BareTrace.{IsBareTrace, IsNoTrace}
use Rattle.ppp_trace.specs.FaultLine.{fault_line}
use Rattle.ppp_base.specs.Numbers.{number_of}
use Rattle.ppp_base.specs.declared.numbers.LeadingZeros.TheVariants.{Refused}
use Rattle.ppp_trace.specs.FirstFault.{FirstFault}
use Rattle.ppp_trace.specs.FullFault.{HasFullFault, IsFirst}
use Rattle.ppp_trace.specs.IsTrace.{IsFullTrace}
use Rattle.ppp_trace.specs.declared.trace.Trace.{Trace}
use Rattle.ppp_trace.specs.declared.TheConstants.{MOST_OCTETS}
use Rattle.ppp_trace.specs.declared.whole_trace.TheConstants.{MOST_MADE_STEPS}
use Rattle.ppp_trace.specs.declared.fault.BadTrace.{BadTrace}
use Rattle.ppp_trace.specs.declared.fault.FaultKind.TheVariants.{Size}
use Rattle.ppp_trace.specs.declared.step.BareStep.{BareStep}
use Rattle.ppp_replay.specs.declared.run.Ending.{Ending}
use Rattle.ppp_replay.specs.declared.run.Ending.TheVariants as ending
use Rattle.ppp_replay.specs.declared.run.Task.{Task}
use Rattle.ppp_replay.specs.declared.run.Task.TheVariants as task
use Rattle.ppp_report.specs.BadLine.{BadLine, IsLawfulReport}
use Rattle.ppp_replay.specs.BareRun.{Headline}
use Rattle.ppp_replay.specs.BareText.{bare_text}

-- the first line begins so
abbrev pub BeginsFull : List ℕ → Type 0
BeginsFull octets = (rest : List ℕ) × (octets ≡ codes "full" ++ rest)

-- the fault of an input above the limit
abbrev pub size_fault : BadTrace
size_fault = record { line = 0; kind = Size }

-- What is wrong with an input: it is too long, or it has this first fault of a full trace, where it begins as one, or else of a bare trace.
abbrev pub IsInputFault : List ℕ → BadTrace → Type 0
IsInputFault octets bad =
    ((MOST_OCTETS < length octets) × (bad ≡ size_fault))
    ⊎ (((length octets ≤ MOST_OCTETS) × (¬ BeginsFull octets) × FirstFault octets bad) ⊎ ((length octets ≤ MOST_OCTETS) × BeginsFull octets × IsFirst (HasFullFault octets) bad))

-- The source was read to its end, or further than a trace may go.
pub record ReadsInput (old new : SourceState) (octets : List ℕ) : Type 0 where
  pub given : Gives old new octets
  pub enough : IsAtEnd new.left ⊎ (MOST_OCTETS < length octets)

-- The line of a fault was written, or a front of it before the sink failed.
abbrev pub WritesFault : SinkState → SinkState → BadTrace → Type 0
WritesFault before after bad = Writes before after (fault_line bad) ⊎ Breaks before after (fault_line bad)

-- What an ending says of a bare trace and the sink.
abbrev pub BareEnds : Ending → List ℕ → SinkState → SinkState → Type 0
BareEnds ending.Done octets before after = (steps : List BareStep) × IsBareTrace octets steps × Headline steps × Writes before after (bare_text steps)
BareEnds ending.SinkFailed octets before after = (steps : List BareStep) × IsBareTrace octets steps × Headline steps × Breaks before after (bare_text steps)
BareEnds ending.Refused octets before after = IsNoTrace octets × ((bad : BadTrace) × FirstFault octets bad × WritesFault before after bad)
BareEnds ending.NoMemory octets before after = Rests before after
BareEnds ending.OtherWords octets before after = ⊥
BareEnds ending.SourceFailed octets before after = ⊥

-- The same of a full trace. Which text is written isn't said.
abbrev pub FullEnds : Ending → List ℕ → SinkState → SinkState → Type 0
FullEnds ending.Done octets before after = (trace : Trace) × IsFullTrace octets trace
FullEnds ending.SinkFailed octets before after = (trace : Trace) × IsFullTrace octets trace
FullEnds ending.Refused octets before after = (bad : BadTrace) × IsFirst (HasFullFault octets) bad × WritesFault before after bad
FullEnds ending.NoMemory octets before after = Rests before after
FullEnds ending.OtherWords octets before after = ⊥
FullEnds ending.SourceFailed octets before after = ⊥

-- The first word tells which trace it is.
abbrev pub InputEnds : Ending → List ℕ → SinkState → SinkState → Type 0
InputEnds end octets before after = (BeginsFull octets × FullEnds end octets before after) ⊎ ((¬ BeginsFull octets) × BareEnds end octets before after)

-- The source was read to its end, and this was done with what it gave.
pub record Replays (end : Ending) (old new : SourceState) (before after : SinkState) : Type 0 where
  pub octets : List ℕ
  pub all : GivesAll old new octets
  pub small : length octets ≤ MOST_OCTETS
  pub ends : InputEnds end octets before after

-- More was read than a trace may have, and the line that tells it was written.
pub record IsTooLong (old new : SourceState) (before after : SinkState) : Type 0 where
  pub octets : List ℕ
  pub given : Gives old new octets
  pub long : MOST_OCTETS < length octets
  pub line : WritesFault before after size_fault

-- ---- reports

abbrev pub lawful_line : List ℕ
lawful_line = codes "lawful\n"

-- the line that names a line of a report
abbrev pub bad_line : ℕ → List ℕ
bad_line n = codes "line " ++ (decimal n ++ codes "\n")

-- The source was read to its end, and what it gave is a lawful report.
pub record ReadsReport (old new : SourceState) (octets : List ℕ) : Type 0 where
  pub all : GivesAll old new octets
  pub small : length octets ≤ MOST_OCTETS
  pub lawful : IsLawfulReport octets

-- A lawful report was read, and the line says so.
pub record Passes (old new : SourceState) (before after : SinkState) : Type 0 where
  pub octets : List ℕ
  pub read : ReadsReport old new octets
  pub wrote : Writes before after lawful_line

-- A lawful report was read, and a front of the line was written before the sink failed.
pub record PassesHalf (old new : SourceState) (before after : SinkState) : Type 0 where
  pub octets : List ℕ
  pub read : ReadsReport old new octets
  pub broke : Breaks before after lawful_line

-- the bad line of an input: 0 where it is too long
abbrev pub IsBadAt : List ℕ → ℕ → Type 0
IsBadAt octets n = ((MOST_OCTETS < length octets) × (n ≡ 0)) ⊎ ((length octets ≤ MOST_OCTETS) × BadLine octets n)

-- What was read is no lawful report, and the line that names its bad line was written, or a front of it before the sink failed.
pub record FindsBad (old new : SourceState) (before after : SinkState) : Type 0 where
  pub octets : List ℕ
  pub read : ReadsInput old new octets
  pub line : ℕ
  pub bad : IsBadAt octets line
  pub wrote : Writes before after (bad_line line) ⊎ Breaks before after (bad_line line)

-- ---- statuses

-- what is to be made, by its three words
abbrev pub made_of : Option ℕ → Option ℕ → Option ℕ → Option Task
made_of (Some seed) (Some links) (Some steps) = Some (task.Make seed links steps)
made_of (Some seed) (Some links) None = None
made_of (Some seed) None steps = None
made_of None links steps = None

abbrev pub made_task : List ℕ → List ℕ → List ℕ → Option Task
made_task seed links steps = made_of (number_of Refused 0 18446744073709551615 seed) (number_of Refused 1 16 links) (number_of Refused 1 200000 steps)

-- what the words of the command line ask for: none a trace, `-c` a report, `-g` with three numbers a made trace
abbrev pub task_of : List (List ℕ) → Option Task
task_of [] = Some task.Replay
task_of (word ∷ []) = if bytes_eq word (codes "-c") then Some task.Check else None
task_of (word ∷ a ∷ []) = None
task_of (word ∷ a ∷ b ∷ []) = None
task_of (word ∷ seed ∷ links ∷ steps ∷ []) = if bytes_eq word (codes "-g") then made_task seed links steps else None
task_of (word ∷ a ∷ b ∷ c ∷ d ∷ words) = None

-- 0 done, 2 other words, 3 refused, 32 no memory, 33 the source failed, 35 the sink failed
abbrev pub status_of : Ending → ℕ
status_of ending.Done = 0
status_of ending.OtherWords = 2
status_of ending.Refused = 3
status_of ending.NoMemory = 32
status_of ending.SourceFailed = 33
status_of ending.SinkFailed = 35

-- how many links and steps may be made
abbrev pub IsMade : Task → Type 0
IsMade task.Replay = ⊤
IsMade task.Check = ⊤
IsMade (task.Make seed links steps) = ((1 ≤ links) × (links ≤ 16)) × (steps ≤ MOST_MADE_STEPS)

-- What an ending says where a trace was made: which line is written isn't said.
abbrev pub MakeEnds : Ending → SinkState → SinkState → Type 0
MakeEnds ending.Done before after = ⊤
MakeEnds ending.SinkFailed before after = ⊤
MakeEnds ending.NoMemory before after = Rests before after
MakeEnds ending.Refused before after = ⊥
MakeEnds ending.OtherWords before after = ⊥
MakeEnds ending.SourceFailed before after = ⊥

-- What an ending says of the source and of the sink. Old and before are as the call begins, new and after as it returns. Where a trace is made,
-- no input is read; which line is written isn't said.
abbrev pub Ends : Option Task → Ending → SourceState → SourceState → SinkState → SinkState → Type 0
Ends None ending.OtherWords old new before after = (new ≡ old) × Rests before after
Ends None other old new before after = ⊥
Ends (Some task) ending.OtherWords old new before after = ⊥
Ends (Some task.Replay) ending.NoMemory old new before after = (new.faults ≡ old.faults) × Rests before after
Ends (Some task.Replay) ending.SourceFailed old new before after = Rose old.faults new.faults × Rests before after
Ends (Some task.Replay) ending.Done old new before after = Replays ending.Done old new before after
Ends (Some task.Replay) ending.Refused old new before after = Replays ending.Refused old new before after ⊎ IsTooLong old new before after
Ends (Some task.Replay) ending.SinkFailed old new before after = Replays ending.SinkFailed old new before after
Ends (Some task.Check) ending.NoMemory old new before after = (new.faults ≡ old.faults) × Rests before after
Ends (Some task.Check) ending.SourceFailed old new before after = Rose old.faults new.faults × Rests before after
Ends (Some task.Check) ending.Done old new before after = Passes old new before after
Ends (Some task.Check) ending.Refused old new before after = FindsBad old new before after
Ends (Some task.Check) ending.SinkFailed old new before after = PassesHalf old new before after
Ends (Some (task.Make seed links steps)) other old new before after = (new ≡ old) × MakeEnds other before after

-- The status is that of an ending, and this is what the ending says.
pub record Answers (words : List (List ℕ)) (status : ℕ) (old new : SourceState) (before after : SinkState) : Type 0 where
  pub ending : Ending
  pub status_is : status ≡ status_of ending
  pub ends : Ends (task_of words) ending old new before after

-- an input that is a trace: a bare one, or a full one, by its first word
abbrev pub IsGoodInput : List ℕ → Type 0
IsGoodInput octets = ((steps : List BareStep) × IsBareTrace octets steps) ⊎ ((trace : Trace) × IsFullTrace octets trace)

-- one that is none
abbrev pub IsBadInput : List ℕ → Type 0
IsBadInput octets = IsNoTrace octets × ((bad : BadTrace) × IsInputFault octets bad)

-- The status is one that this input has, where the source tells all of it.
abbrev pub IsStatusOf : Option Task → List ℕ → ℕ → Type 0
IsStatusOf None octets status = status ≡ 2
IsStatusOf (Some task.Replay) octets status =
    (status ≡ 32) ⊎ ((status ≡ 33) ⊎ (((status ≡ 3) × IsBadInput octets) ⊎ (((status ≡ 0) ⊎ (status ≡ 35)) × IsGoodInput octets)))
IsStatusOf (Some task.Check) octets status =
    (status ≡ 32) ⊎ ((status ≡ 33) ⊎ (((status ≡ 3) × ((n : ℕ) × IsBadAt octets n)) ⊎ (((status ≡ 0) ⊎ (status ≡ 35)) × (length octets ≤ MOST_OCTETS) × IsLawfulReport octets)))
IsStatusOf (Some (task.Make seed links steps)) octets status = (status ≡ 32) ⊎ ((status ≡ 0) ⊎ (status ≡ 35))
