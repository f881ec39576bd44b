-- The octets with a meaning of their own on the line (RFC 1662).
use Rattle.std.specs.Prelude.{ℕ, ◌==◌, ◌&&◌, nat_lt, Bool}
use Rattle.std.specs.Int.{bit_at}

-- the flag that begins and ends a frame (RFC 1662, 4.1)
abbrev pub is_flag : ℕ → Bool
is_flag octet = octet == 0x7e

-- the escape, which changes the octet behind it (RFC 1662, 4.2)
abbrev pub is_escape : ℕ → Bool
is_escape octet = octet == 0x7d

-- whether the octet is below 32 and its bit is set in the map (RFC 1662, 7.1)
abbrev pub is_mapped : ℕ → ℕ → Bool
is_mapped map octet = nat_lt octet 32 && bit_at map octet == 1
