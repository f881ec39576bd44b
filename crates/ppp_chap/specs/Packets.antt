-- The packets of CHAP (RFC 1994, section 4): a challenge and a response carry a value behind its size, and a name; a success and a failure
-- a message.
use Rattle.std.specs.Prelude.{ℕ, ◌&&◌, nat_le, Option, Some, None, List, [], ◌∷◌, ◌++◌, length, take, drop, if◌then◌else◌}
use Rattle.ppp_packet.specs.declared.packet.Packet.{Packet}

abbrev pub valued_body : List ℕ → List ℕ → List ℕ
valued_body value name = length value ∷ (value ++ name)

abbrev pub challenge_packet : List ℕ → List ℕ → Packet
challenge_packet challenge name = record { code = 1; id = 1; body = valued_body challenge name }

abbrev pub response_packet : ℕ → List ℕ → List ℕ → Packet
response_packet id value name = record { code = 2; id = id; body = valued_body value name }

-- a success or a failure of ours, without a message
abbrev pub result_packet : ℕ → ℕ → Packet
result_packet code id = record { code = code; id = id; body = [] }

-- The value and the name of a challenge's or response's data: the size is within them, and the name has at most 255 octets.
abbrev pub valued_of : List ℕ → Option (List ℕ × List ℕ)
valued_of [] = None
valued_of (size ∷ rest) =
    if nat_le size (length rest) && nat_le (length (drop size rest)) 255 then Some (take size rest, drop size rest) else None
