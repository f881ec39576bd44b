-- What a clause sees of a dialer, and what one call of `dial` does.
use Rattle.std.specs.Prelude.{◌≡◌, ℕ, Bool, true, false, List, [], ◌∷◌, Option}
use Rattle.ppp_outside.specs.Contents.{GrowsBy, HasNothing}
use Rattle.ppp_outside.specs.Counts.{CountsFault, raised}
use Rattle.ppp_outside.specs.Line.{IsNewLine, LineState}
use Rattle.ppp_outside.specs.Sink.{IsNewSink, SinkState}
use Rattle.ppp_outside.specs.declared.dialer.DialNext.{DialNext}
use Rattle.ppp_outside.specs.declared.dialer.DialNext.TheVariants as next
use Rattle.ppp_outside.specs.declared.dialer.Dialled.{Dialled}
use Rattle.ppp_outside.specs.declared.dialer.Dialled.TheVariants as dialled
use Rattle.ppp_outside.specs.declared.line_words.LineWords.{LineWords}

-- how many calls there were; how often it has failed; the words of the calls that gave a line, the oldest first, where told
pub record DialerState : Type 0 where
  pub tries : ℕ
  pub faults : ℕ
  pub asked : Option (List LineWords)

abbrev pub failed : {I O : Type 0} → Dialled I O → Bool
failed (dialled.Line input output) = false
failed dialled.Failed = true

-- what a call adds to the words: its own, where it gave a line
abbrev pub asked_by : Bool → LineWords → List LineWords
asked_by true words = []
asked_by false words = words ∷ []

-- One dial with these words, which failed or gave a line.
pub record Dials (old new : DialerState) (words : LineWords) (fails : Bool) : Type 0 where
  pub tries : new.tries ≡ raised old.tries 1
  pub faults : CountsFault fails old.faults new.faults
  pub asked : GrowsBy (asked_by fails words) old.asked new.asked

-- Both halves of a line that was dialled are new.
abbrev pub GivesNewLine : {I O : Type 0} → (I → LineState) → (O → SinkState) → Dialled I O → Type 0
GivesNewLine line sink (dialled.Line input output) = IsNewLine (line input) × IsNewSink (sink output)
GivesNewLine line sink dialled.Failed = Unit {0}

-- whether the answer that was set is a fault
abbrev pub is_fault : DialNext → Bool
is_fault next.Line = false
is_fault next.Failed = true

-- A dialer that was just made: its counts are 0, and where it tells what it was asked, that is nothing.
pub record IsNewDialer (dialer : DialerState) : Type 0 where
  pub tries : dialer.tries ≡ 0
  pub faults : dialer.faults ≡ 0
  pub asked : HasNothing dialer.asked
