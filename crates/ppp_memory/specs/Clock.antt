-- What contracts see of a clock in memory.
use Rattle.std.specs.Prelude.{ℕ, ◌+◌, Bool, List, ◌∷◌, length, take, min, max, nat_lt, ◌||◌, if◌then◌else◌, slice_index, Some, None}
use Rattle.ppp_outside.specs.Clock.{ClockState}

-- the first reading and those after it, how many were given, whether there was a call after the last one, and the greatest
-- reading that was given
pub record ClockInMemory : Type 0 where
  pub first : ℕ
  pub later : List ℕ
  pub at : ℕ
  pub past : Bool
  pub latest : ℕ

abbrev pub all_readings : ClockInMemory → List ℕ
all_readings s = s.first ∷ s.later

-- it tells the readings up to the last one
abbrev pub state_of : ClockInMemory → ClockState
state_of s = record { latest = s.latest; readings = if s.past then None else Some (take s.at (all_readings s)) }

-- what the next call gives: the next reading, and past the last one that again
abbrev pub reading_of : ClockInMemory → ℕ
reading_of s = slice_index (all_readings s) (min s.at (length s.later))

-- after a call
abbrev pub after_reading : ClockInMemory → ClockInMemory
after_reading s = record s {
  at = min (s.at + 1) (length s.later + 1);
  past = s.past || nat_lt (length s.later) s.at;
  latest = max s.latest (reading_of s);
}
