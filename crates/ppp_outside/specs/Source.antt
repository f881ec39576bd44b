-- What a clause sees of a source, and what one call of `read` does to it.
use Rattle.std.specs.Prelude.{ℕ, ◌<◌, ◌≤◌, Bool, true, false, List, [], length, take, Option}
use Rattle.ppp_outside.specs.declared.source.Got.{Got}
use Rattle.ppp_outside.specs.declared.source.Got.TheVariants as got

-- the octets that are left, where the source tells them; how many it has given; how often it has failed
pub record SourceState : Type 0 where
  pub left : Option (List ℕ)
  pub taken : ℕ
  pub faults : ℕ

abbrev pub failed : Got → Bool
failed (got.Got n) = false
failed got.End = false
failed got.Failed = true

-- the octets that a read gave, which stand at the front of its buffer
abbrev pub given : Got → List ℕ → List ℕ
given (got.Got n) buf = take n buf
given got.End buf = []
given got.Failed buf = []

-- A read gives no more than there is room for, and something where there is room.
abbrev pub FitsBuffer : Got → List ℕ → Type 0
FitsBuffer (got.Got n) buf = (n ≤ length buf) × (0 < length buf → 0 < n)
FitsBuffer got.End buf = Unit {0}
FitsBuffer got.Failed buf = Unit {0}
