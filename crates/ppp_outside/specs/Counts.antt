-- Counts of the outside, which never fall and stand still at the end of a u64.
use Rattle.std.specs.Prelude.{◌≡◌, ℕ, ◌+◌, ◌-◌, ◌^◌, ◌≤◌, max, min, Bool, true, false}

-- the last value of a count
abbrev pub last : ℕ
last = 2 ^ 64 - 1

-- a count after n more, which stands still at its last value
abbrev pub raised : ℕ → ℕ → ℕ
raised count n = max count (min (count + n) last)

-- A count rose, or stands at its last value.
abbrev pub Rose : ℕ → ℕ → Type 0
Rose before now = raised before 1 ≤ now

-- A call that failed raised the count of faults, and any other call left it.
abbrev pub CountsFault : Bool → ℕ → ℕ → Type 0
CountsFault true before now = Rose before now
CountsFault false before now = now ≡ before

-- a count after a call that raises it by one, or leaves it
abbrev pub counted : Bool → ℕ → ℕ
counted true count = raised count 1
counted false count = count
