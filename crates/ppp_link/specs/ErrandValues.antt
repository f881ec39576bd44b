-- What contracts see of the errands of a link, and what their counts tell of the outside.
use Rattle.std.specs.Prelude.{ℕ, ◌+◌, ◌-◌, ◌<◌, ◌≤◌, ◌≡◌, Bool, true, false, Option, None, Some, List, length, take, ⊤}
use Rattle.std.specs.Io.KnownBytes.{Appends, IsAtEnd}
use Rattle.ppp_hooks.specs.HookCounts.{CountsFrom}
use Rattle.ppp_outside.specs.Counts.{Rose}
use Rattle.ppp_outside.specs.Line.{LineState}
use Rattle.ppp_outside.specs.Sink.{SinkState}
use Rattle.ppp_outside.specs.declared.line_words.LineWords.{LineWords}
use Rattle.ppp_link_rules.specs.declared.errand.ReadEnd.{ReadEnd}
use Rattle.ppp_link_rules.specs.declared.errand.ReadEnd.TheVariants as read
use Rattle.ppp_link_rules.specs.declared.errand.SentEnd.{SentEnd}
use Rattle.ppp_link_rules.specs.declared.errand.SentEnd.TheVariants as sent

-- OCTETS THAT CAME: whose they are, how many the line had given before them, and they
pub record PieceValue : Type 0 where
  pub link : ℕ
  pub session : ℕ
  pub offset : ℕ
  pub octets : List ℕ

-- A DIAL that is to be made: whose it is, how many failed before it, which line, and the dialer
pub record DialJobState (D : Type 0) : Type 0 where
  pub link : ℕ
  pub session : ℕ
  pub failed : ℕ
  pub line : LineWords
  pub dialer : D

-- one that was made, with the halves of the line that it gave
pub record DialDoneState (D : Type 0) (I : Type 0) (O : Type 0) : Type 0 where
  pub link : ℕ
  pub session : ℕ
  pub failed : ℕ
  pub dialer : D
  pub came : Option (I × O)

-- how many dials failed with this one
abbrev pub failed_with : {A : Type 0} → ℕ → Option A → ℕ
failed_with failed None = failed + 1
failed_with failed (Some line) = failed

-- In what follows t and f are the counts with which a dialer was handed in. A link's sessions are its dials, from 1 on.
module _ {D : Type 0} (tries faults : D → ℕ) where
  -- a dialer in a job was tried once for each session before it
  abbrev pub DialJobCounts : ℕ → ℕ → DialJobState D → Type 0
  DialJobCounts t f job = (0 < job.session) × CountsFrom t f (tries job.dialer) (faults job.dialer) (job.session - 1) job.failed

  -- and behind it once more
  abbrev pub DialDoneCounts : {I O : Type 0} → ℕ → ℕ → DialDoneState D I O → Type 0
  DialDoneCounts t f done = CountsFrom t f (tries done.dialer) (faults done.dialer) done.session (failed_with done.failed done.came)

-- A READING: whose it is, how many octets its line has given, and the line's half
pub record ReadingState (I : Type 0) : Type 0 where
  pub link : ℕ
  pub session : ℕ
  pub taken : ℕ
  pub input : I

-- one that came back, and why
pub record ReadOverState (I : Type 0) : Type 0 where
  pub link : ℕ
  pub session : ℕ
  pub end : ReadEnd
  pub taken : ℕ
  pub input : I

-- At a line's end its count of ends is another than the one with which it was dialled, which is 0, and nothing is left where the line tells this; behind a fault
-- its count of faults is.
abbrev pub IsReadEnd : ReadEnd → LineState → Type 0
IsReadEnd read.End line = (0 < line.ends) × IsAtEnd line.left
IsReadEnd read.Failed line = 0 < line.faults
IsReadEnd read.Left line = ⊤

-- A WRITING: whose it is, its octets, and the line's half
pub record WritingState (O : Type 0) : Type 0 where
  pub link : ℕ
  pub session : ℕ
  pub octets : List ℕ
  pub output : O

-- one that came back, and how
pub record SentState (O : Type 0) : Type 0 where
  pub link : ℕ
  pub session : ℕ
  pub end : SentEnd
  pub output : O

-- Behind a fault the count of faults is another than 0, with which the half was dialled.
abbrev pub IsSentEnd : SentEnd → SinkState → Type 0
IsSentEnd sent.All sink = ⊤
IsSentEnd (sent.Failed count) sink = 0 < sink.faults

-- All the octets were appended; or the sink failed, and so many from their front were.
abbrev pub HasSent : SentEnd → SinkState → SinkState → List ℕ → Type 0
HasSent sent.All old new octets = Appends old.written new.written octets × (new.faults ≡ old.faults)
HasSent (sent.Failed count) old new octets =
    (count ≤ length octets) × Appends old.written new.written (take count octets) × Rose old.faults new.faults

-- whether all of a writing went out
abbrev pub is_all : SentEnd → Bool
is_all sent.All = true
is_all (sent.Failed count) = false
