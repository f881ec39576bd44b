-- What a clause sees of a control, and what one call of `next` does to it.
use Rattle.std.specs.Prelude.{◌≡◌, ℕ, Bool, true, false, List, [], ◌∷◌, Option}
use Rattle.ppp_base.specs.declared.signal_word.SignalWord.{SignalWord}
use Rattle.ppp_outside.specs.Contents.{HasNothing, LosesFront}
use Rattle.ppp_outside.specs.Counts.{CountsFault, counted}
use Rattle.ppp_outside.specs.declared.control.Word.{Word}
use Rattle.ppp_outside.specs.declared.control.Word.TheVariants as word

-- the signals that are left, where they are told; how many it has given; how often it was at its end, and has failed
pub record ControlState : Type 0 where
  pub left : Option (List SignalWord)
  pub signals : ℕ
  pub ends : ℕ
  pub faults : ℕ

abbrev pub failed : Word → Bool
failed (word.Signal signal) = false
failed word.Quiet = false
failed word.End = false
failed word.Failed = true

abbrev pub is_signal : Word → Bool
is_signal (word.Signal signal) = true
is_signal word.Quiet = false
is_signal word.End = false
is_signal word.Failed = false

abbrev pub is_end : Word → Bool
is_end (word.Signal signal) = false
is_end word.Quiet = false
is_end word.End = true
is_end word.Failed = false

-- the signal that a call gave
abbrev pub signal_given : Word → List SignalWord
signal_given (word.Signal signal) = signal ∷ []
signal_given word.Quiet = []
signal_given word.End = []
signal_given word.Failed = []

-- At its end a control has no signal left.
abbrev pub EndsEmpty : Word → Option (List SignalWord) → Type 0
EndsEmpty (word.Signal signal) left = Unit {0}
EndsEmpty word.Quiet left = Unit {0}
EndsEmpty word.End left = HasNothing left
EndsEmpty word.Failed left = Unit {0}

-- One call.
pub record HearsWord (old new : ControlState) (answer : Word) : Type 0 where
  pub left : LosesFront (signal_given answer) old.left new.left
  pub ends_empty : EndsEmpty answer new.left
  pub signals : new.signals ≡ counted (is_signal answer) old.signals
  pub ends : new.ends ≡ counted (is_end answer) old.ends
  pub faults : CountsFault (failed answer) old.faults new.faults

-- A control that was just made: its counts are 0.
pub record IsNewControl (control : ControlState) : Type 0 where
  pub signals : control.signals ≡ 0
  pub ends : control.ends ≡ 0
  pub faults : control.faults ≡ 0
