-- What a clause sees of a clock, and what one reading does to it.
use Rattle.std.specs.Prelude.{◌≡◌, ℕ, max, List, [], ◌∷◌, Option}
use Rattle.ppp_outside.specs.Contents.{GrowsWhereTold, HasNothing}

-- the greatest reading so far, in milliseconds, 0 before the first; the readings, the oldest first, where they are told
pub record ClockState : Type 0 where
  pub latest : ℕ
  pub readings : Option (List ℕ)

-- The clock gave this reading.
pub record Reads (old new : ClockState) (reading : ℕ) : Type 0 where
  pub latest : new.latest ≡ max old.latest reading
  pub readings : GrowsWhereTold (reading ∷ []) old.readings new.readings

-- A clock that was just made has given no reading.
pub record IsNewClock (clock : ClockState) : Type 0 where
  pub latest : clock.latest ≡ 0
  pub readings : HasNothing clock.readings
