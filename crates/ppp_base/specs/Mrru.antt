-- The most octets of a datagram that both ends of a link take in pieces (RFC 1990, section 5.1.1).
use Rattle.std.specs.Prelude.{ℕ}

-- ours and the peer's
pub record MrruPair : Type 0 where
  pub ours : ℕ
  pub theirs : ℕ
