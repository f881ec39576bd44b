-- Which calls of an object in memory are to fail.
use Rattle.std.specs.Prelude.{ℕ, Bool, List, nat_eq}
use Rattle.std.specs.List.{list_any}
use Rattle.ppp_outside.specs.Counts.{raised}

-- whether the call after so many is one of these, where the first call is number 1
abbrev pub is_listed : ℕ → List ℕ → Bool
is_listed calls numbers = list_any (λ call. nat_eq call (raised calls 1)) numbers
