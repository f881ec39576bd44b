-- What a ring of bounded size takes and drops.

use Rattle.std.specs.Prelude.{ℕ, ◌+◌, ◌-◌, ◌^◌, min, nat_le, if◌then◌else◌, List, ◌++◌}

-- what waits in a ring, the oldest first, and how many things it dropped
pub record Ring (A : Type 0) : Type 0 where
  pub waiting : List A
  pub dropped : ℕ

-- one more, up to the last value of a count
abbrev pub one_more : ℕ → ℕ
one_more count = min (count + 1) (2 ^ 64 - 1)

-- A thing is appended whole where it fits with what waits; else it is dropped and counted.
abbrev pub RingAfter : {A : Type 0} → (List A → ℕ) → ℕ → List A → Ring A → Ring A
RingAfter size most thing ring =
    if nat_le (size (ring.waiting ++ thing)) most
    then record ring { waiting = ring.waiting ++ thing }
    else record ring { dropped = one_more ring.dropped }
