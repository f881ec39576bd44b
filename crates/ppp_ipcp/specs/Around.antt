-- What IPCP is told of a packet.
use Rattle.std.specs.Prelude.{ℕ}
use Rattle.ppp_base.specs.declared.allow.Allow.{Allow}
use Rattle.ppp_secrets.specs.declared.secrets.SecretsPair.{SecretsPair}

-- Which addresses the peer may have of these secrets, and the most octets of a packet to it.
pub record Around : Type 0 where
  pub allow : Allow
  pub secrets : SecretsPair
  pub mru : ℕ

abbrev pub around : Allow → SecretsPair → ℕ → Around
around allow secrets mru = record { allow = allow; secrets = secrets; mru = mru }
