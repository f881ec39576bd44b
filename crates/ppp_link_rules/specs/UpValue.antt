-- What a link posts to the table, as plain values.
use Rattle.std.specs.Prelude.{ℕ, Option, List}
use Rattle.ppp_base.specs.Disc.{Discriminator}
use Rattle.ppp_base.specs.Mrru.{MrruPair}
use Rattle.ppp_base.specs.declared.allow.Allow.{Allow}

-- who asks for a bundle in which stay, and with which terms of the line (RFC 1990, section 5.1)
pub record JoinValue : Type 0 where
  pub stay : ℕ
  pub peer : Option (List ℕ)
  pub disc : Option Discriminator
  pub mrru : Option MrruPair
  pub mru : ℕ
  pub allow : Allow

pub data UpValue : Type 0 where
  Asks : (join : JoinValue) → UpValue
  Hands : (protocol : ℕ) → (information : List ℕ) → UpValue
  Leaves : (stay : ℕ) → UpValue
