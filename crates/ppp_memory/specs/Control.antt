-- What contracts see of a control in memory.
use Rattle.std.specs.Prelude.{ℕ, Bool, nat_eq, List, [], ◌∷◌, Option, Some, None, drop, codes, filter_map, if◌then◌else◌}
use Rattle.std.specs.Cmp.Lexicographic.{pointwise}
use Rattle.ppp_base.specs.declared.signal_word.SignalWord.{SignalWord}
use Rattle.ppp_base.specs.declared.signal_word.SignalWord.TheVariants.{Hup, Int, Term, Usr1, Usr2}
use Rattle.ppp_outside.specs.Calls.{is_listed}
use Rattle.ppp_outside.specs.Control.{ControlState, failed, is_end, is_signal}
use Rattle.ppp_outside.specs.Counts.{counted, raised}
use Rattle.ppp_outside.specs.SignalNames.{signal_of}
use Rattle.ppp_outside.specs.declared.control.Word.{Word}
use Rattle.ppp_outside.specs.declared.control.Word.TheVariants as word

-- the words that are left, which calls are to fail, and the counts
pub record ControlInMemory : Type 0 where
  pub words : List (List ℕ)
  pub failing : List ℕ
  pub calls : ℕ
  pub signals : ℕ
  pub ends : ℕ
  pub faults : ℕ

-- it tells the signals among the words that are left
abbrev pub state_of : ControlInMemory → ControlState
state_of s = record { left = Some (filter_map signal_of s.words); signals = s.signals; ends = s.ends; faults = s.faults }

-- a signal, and quiet for a word that names none
abbrev pub signal_or_quiet : Option SignalWord → Word
signal_or_quiet (Some signal) = word.Signal signal
signal_or_quiet None = word.Quiet

-- what the first of the words is heard as
abbrev pub heard_as : List (List ℕ) → Word
heard_as [] = word.End
heard_as (text ∷ rest) = signal_or_quiet (signal_of text)

-- what the next call answers
abbrev pub answer_of : ControlInMemory → Word
answer_of s = if is_listed s.calls s.failing then word.Failed else heard_as s.words

-- the counts after an answer
abbrev pub counted_after : ControlInMemory → Word → ControlInMemory
counted_after s answer = record s {
  calls = raised s.calls 1;
  signals = counted (is_signal answer) s.signals;
  ends = counted (is_end answer) s.ends;
  faults = counted (failed answer) s.faults;
}

-- after a call with this answer
abbrev pub after_next : ControlInMemory → Word → ControlInMemory
after_next s answer = record (counted_after s answer) { words = if failed answer then s.words else drop 1 s.words }
