-- What names a peer beside its authentication (RFC 1990, section 5.1.3).
use Rattle.std.specs.Prelude.{ℕ, List}

-- the class and the address of an endpoint discriminator
pub record Discriminator : Type 0 where
  pub class : ℕ
  pub address : List ℕ
