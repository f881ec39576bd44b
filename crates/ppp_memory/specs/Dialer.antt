-- What contracts see of a dialer in memory.
use Rattle.std.specs.Prelude.{◌≡◌, ℕ, Bool, true, false, List, ◌∷◌, ◌++◌, length, nat_eq, ◌||◌, Some}
use Rattle.ppp_outside.specs.Calls.{is_listed}
use Rattle.ppp_outside.specs.Counts.{counted, raised}
use Rattle.ppp_outside.specs.Dialer.{DialerState, asked_by, is_fault}
use Rattle.ppp_outside.specs.MemorySink.{SinkInMemory}
use Rattle.ppp_outside.specs.declared.dialer.DialNext.{DialNext}
use Rattle.ppp_outside.specs.declared.dialer.Dialled.{Dialled}
use Rattle.ppp_outside.specs.declared.dialer.Dialled.TheVariants as dialled
use Rattle.ppp_outside.specs.declared.line_words.LineWords.{LineWords}
use Rattle.ppp_memory.specs.Line.{LineInMemory}

-- the two halves of a line
pub record LineHalves : Type 0 where
  pub input : LineInMemory
  pub output : SinkInMemory

-- the lines that are left, the words of the calls that gave one, which calls are to fail, the answer that was set, and the
-- counts
pub record DialerInMemory : Type 0 where
  pub lines : List LineHalves
  pub asked : List LineWords
  pub failing : List ℕ
  pub next : DialNext
  pub tries : ℕ
  pub faults : ℕ

-- it tells what it was asked
abbrev pub state_of : DialerInMemory → DialerState
state_of s = record { tries = s.tries; faults = s.faults; asked = Some s.asked }

-- whether the next call fails: it is one of those that are to fail, a fault was set, or no line is left
abbrev pub is_refused : DialerInMemory → Bool
is_refused s = (is_listed s.tries s.failing || is_fault s.next) || nat_eq (length s.lines) 0

-- What a call answers and which lines it leaves: the first one is given, unless the call fails.
abbrev pub GivesFirst : DialerInMemory → Dialled LineInMemory SinkInMemory → List LineHalves → Type 0
GivesFirst s (dialled.Line input output) lines =
    (is_refused s ≡ false) × (s.lines ≡ record { input = input; output = output } ∷ lines)
GivesFirst s dialled.Failed lines = (is_refused s ≡ true) × (lines ≡ s.lines)

-- after a call with these words that failed or not and left these lines
abbrev pub after_dial : DialerInMemory → LineWords → Bool → List LineHalves → DialerInMemory
after_dial s words fails lines = record s {
  lines = lines;
  asked = s.asked ++ asked_by fails words;
  tries = raised s.tries 1;
  faults = counted fails s.faults;
}
