-- What chat answers, and why (chat(8), "Exit statuses").
use Rattle.std.specs.Prelude.{◌≡◌, ℕ, ◌+◌, ◌≤◌, ◌⊎◌, true, false, List, codes, Option, None, Some, Result, Ok, Err}
use Rattle.ppp_chat.specs.declared.now.ChatEnd.{ChatEnd}
use Rattle.ppp_chat.specs.declared.now.ChatEnd.TheVariants.{Done, TimedOut, Aborted}
use Rattle.ppp_outside.specs.Clock.{ClockState}
use Rattle.ppp_outside.specs.Counts.{Rose}
use Rattle.ppp_outside.specs.Dialer.{DialerState, Dials}
use Rattle.ppp_outside.specs.Files.{FilesState}
use Rattle.ppp_outside.specs.Line.{IsNewLine, LineState}
use Rattle.ppp_outside.specs.Sink.{IsNewSink, SinkState}
use Rattle.ppp_outside.specs.Writing.{Breaks, Writes}
use Rattle.ppp_outside.specs.declared.line_in.LineAnswer.{LineAnswer}
use Rattle.chat.specs.Asked.{Plans}
use Rattle.chat.specs.Talks.{Talks}
use Rattle.chat.specs.declared.ending.Ending.{Ending}
use Rattle.chat.specs.declared.ending.Ending.TheVariants.{Refused, NoLine, Talked}
use Rattle.chat.specs.declared.ending.Refusal.{Refusal}
use Rattle.chat.specs.declared.ending.Refusal.TheVariants.{OtherWords, BadScript, NoFile, FilesFailed, NoMemory}
use Rattle.chat.specs.declared.ending.TalkEnd.{TalkEnd}
use Rattle.chat.specs.declared.ending.TalkEnd.TheVariants.{Over, LineEnded, LineFailed, SendFailed}
use Rattle.chat.specs.declared.plan.Plan.{Plan}

-- the statuses

abbrev pub refused_status : Refusal → ℕ
refused_status OtherWords = 1
refused_status BadScript = 1
refused_status NoFile = 2
refused_status FilesFailed = 2
refused_status NoMemory = 64

-- the script was done, it was late, or this abort string came
abbrev pub over_status : ChatEnd → ℕ
over_status Done = 0
over_status TimedOut = 3
over_status (Aborted number) = 3 + number

abbrev pub talk_status : TalkEnd → ℕ
talk_status (Over how) = over_status how
talk_status LineEnded = 2
talk_status LineFailed = 2
talk_status SendFailed = 2

abbrev pub status_of : Ending → ℕ
status_of (Refused refusal) = refused_status refusal
status_of NoLine = 2
status_of (Talked end) = talk_status end

-- An abort string's number is from 1 to 50, so that no two of these statuses are the same.
abbrev pub IsNumbered : ChatEnd → Type 0
IsNumbered Done = Unit {0}
IsNumbered TimedOut = Unit {0}
IsNumbered (Aborted number) = (1 ≤ number) × (number ≤ 50)

abbrev pub TalkIsNumbered : TalkEnd → Type 0
TalkIsNumbered (Over how) = IsNumbered how
TalkIsNumbered other = Unit {0}

abbrev pub EndIsNumbered : Ending → Type 0
EndIsNumbered (Talked end) = TalkIsNumbered end
EndIsNumbered other = Unit {0}

-- what is told

-- The text was written, or a front of it before the sink failed.
abbrev pub Tells : SinkState → SinkState → List ℕ → Type 0
Tells old new text = Writes old new text ⊎ Breaks old new text

-- Other words and a bad script are told, and nothing else.
abbrev pub TellsOf : Refusal → SinkState → SinkState → Type 0
TellsOf OtherWords old new = Tells old new (codes "chat: usage\n")
TellsOf BadScript old new = Tells old new (codes "chat: bad script\n")
TellsOf NoFile old new = new ≡ old
TellsOf FilesFailed old new = new ≡ old
TellsOf NoMemory old new = new ≡ old

-- what a run is handed
pub record Outside (C : Type 0) : Type 0 where
  pub files : FilesState
  pub dialer : DialerState
  pub clock : C
  pub errors : SinkState

-- Nothing was dialled, for this reason.
pub record IsRefused {C L : Type 0} (words : List (List ℕ)) (refusal : Refusal) (old new : Outside C) (line : Option L) : Type 0 where
  pub plan : Plans old.files new.files words (Err refusal)
  pub tells : TellsOf refusal old.errors new.errors
  pub dialer : new.dialer ≡ old.dialer
  pub clock : new.clock ≡ old.clock
  pub none : line ≡ None

-- The dial failed.
pub record HasNoLine {C L : Type 0} (words : List (List ℕ)) (old new : Outside C) (line : Option L) : Type 0 where
  pub asked : Plan
  pub plan : Plans old.files new.files words (Ok asked)
  pub dials : Dials old.dialer new.dialer asked.line true
  pub clock : new.clock ≡ old.clock
  pub errors : new.errors ≡ old.errors
  pub none : line ≡ None

module _ {I O C : Type 0} (input : I → LineState) (coming : I → Option LineAnswer) (output : O → SinkState) (clock : C → ClockState) where
  -- A line was dialled, the script was run over it, and it is given back.
  pub record RunsOver (asked : Plan) (old new : DialerState) (earlier later : C) (end : TalkEnd) (line : Option (I × O)) : Type 0 where
    pub dials : Dials old new asked.line false
    pub first : I × O
    pub new_input : IsNewLine (input first.0)
    pub new_output : IsNewSink (output first.1)
    pub last : I × O
    pub line_is : line ≡ Some last
    pub talks : Talks input coming clock asked.script end first.0 last.0 earlier later (output first.1) (output last.1)

  pub record Converses (words : List (List ℕ)) (end : TalkEnd) (old new : Outside C) (line : Option (I × O)) : Type 0 where
    pub asked : Plan
    pub plan : Plans old.files new.files words (Ok asked)
    pub runs : RunsOver asked old.dialer new.dialer old.clock new.clock end line
    pub errors : new.errors ≡ old.errors

  abbrev pub Ends : List (List ℕ) → Ending → Outside C → Outside C → Option (I × O) → Type 0
  Ends words (Refused refusal) old new line = IsRefused words refusal old new line
  Ends words NoLine old new line = HasNoLine words old new line
  Ends words (Talked end) old new line = Converses words end old new line

  -- The status is that of an ending, and this is what the ending says.
  pub record Answers (words : List (List ℕ)) (status : ℕ) (old new : Outside C) (line : Option (I × O)) : Type 0 where
    pub ending : Ending
    pub status_is : status ≡ status_of ending
    pub ends : Ends words ending old new line

-- A line that is given back has failed, at a read or at a write, or was at its end.
abbrev pub LineIsOut : {I O : Type 0} → (I → LineState) → (O → SinkState) → Option (I × O) → Type 0
LineIsOut input output None = ⊥
LineIsOut input output (Some line) = Rose 0 (input line.0).faults ⊎ (Rose 0 (input line.0).ends ⊎ Rose 0 (output line.1).faults)

-- The outside failed, or the line was at its end.
abbrev pub HasCause : {I O C : Type 0} → (I → LineState) → (O → SinkState) → Outside C → Outside C → Option (I × O) → Type 0
HasCause input output old new line = Rose old.files.faults new.files.faults ⊎ (Rose old.dialer.faults new.dialer.faults ⊎ LineIsOut input output line)

-- The status is one that words have which ask for this; 2 for another cause, and 64, where memory runs out, are always among them.
abbrev pub IsStatusOf : Result Plan Refusal → Type 0 → ℕ → Type 0
IsStatusOf (Ok asked) cause status = ((how : ChatEnd) × (status ≡ over_status how)) ⊎ (((status ≡ 2) × cause) ⊎ (status ≡ 64))
IsStatusOf (Err refusal) cause status = (status ≡ refused_status refusal) ⊎ (((status ≡ 2) × cause) ⊎ (status ≡ 64))

-- What the run of a plan does, for its private call.
abbrev pub PlanRuns : {I O C : Type 0} → (I → LineState) → (I → Option LineAnswer) → (O → SinkState) → (C → ClockState)
    → Plan → DialerState → DialerState → C → C → Ending → Option (I × O) → Type 0
PlanRuns input coming output clock asked old new earlier later (Refused refusal) line = ⊥
PlanRuns input coming output clock asked old new earlier later NoLine line = Dials old new asked.line true × (later ≡ earlier) × (line ≡ None)
PlanRuns input coming output clock asked old new earlier later (Talked end) line = RunsOver input coming output clock asked old new earlier later end line
