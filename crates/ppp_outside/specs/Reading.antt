-- What a source gave while it was read, over any number of reads.
use Rattle.std.specs.Prelude.{◌≡◌, ℕ, ◌<◌, ◌≤◌, List, length}
use Rattle.std.specs.Io.KnownBytes.{Consumes, IsAtEnd}
use Rattle.ppp_outside.specs.Counts.{Rose, raised}
use Rattle.ppp_outside.specs.Source.{SourceState}
use Rattle.ppp_outside.specs.declared.reading.Whole.{Whole}
use Rattle.ppp_outside.specs.declared.reading.Whole.TheVariants as whole

-- The source gave these octets, and didn't fail.
pub record Gives (old new : SourceState) (octets : List ℕ) : Type 0 where
  pub consumed : Consumes old.left new.left octets
  pub counted : new.taken ≡ raised old.taken (length octets)
  pub sound : new.faults ≡ old.faults

-- The source gave these octets and was read to its end, and didn't fail.
pub record GivesAll (old new : SourceState) (octets : List ℕ) : Type 0 where
  pub given : Gives old new octets
  pub end : IsAtEnd new.left

-- What was read: all octets of the source, where they are no more than the limit; more than the limit; or it failed.
abbrev pub Reads : ℕ → SourceState → SourceState → Whole → Type 0
Reads limit old new (whole.Octets v) = GivesAll old new v.items × (length v.items ≤ limit)
Reads limit old new (whole.TooLong v) = Gives old new v.items × (limit < length v.items)
Reads limit old new whole.Failed = Rose old.faults new.faults
