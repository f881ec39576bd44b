-- What reading pairs of digits answers.
use Rattle.std.specs.Prelude.{◌≡◌, ℕ, List, Option, Some, None, Result, Ok, Err}
use Rattle.std.specs.Global.{Vec}
use Rattle.ppp_base.specs.declared.no_memory.NoMemory.{NoMemory}

-- The answer is what was read, unless memory ran out.
abbrev pub PairsGive : Result (Option (Vec ℕ)) NoMemory → Option (List ℕ) → Type 0
PairsGive (Ok None) read = read ≡ None
PairsGive (Ok (Some octets)) read = read ≡ Some octets.items
PairsGive (Err fault) read = Unit {0}
