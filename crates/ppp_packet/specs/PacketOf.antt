-- A control packet's octets (RFC 1661, section 5): code, identifier, length, data and padding.
use Rattle.std.specs.Prelude.{◌≡◌, ℕ, ◌+◌, ◌-◌, ◌*◌, ◌/◌, ◌%◌, ◌<◌, ◌≤◌, ◌⊎◌, ◌&&◌, Bool, Option, Some, None, List, ◌∷◌, ◌++◌, length, take, drop, slice_index, nat_le, if◌then◌else◌}
use Rattle.ppp_base.specs.declared.octets.TheConstants.{MOST_FRAME}
use Rattle.ppp_packet.specs.declared.packet.Packet.{Packet}

-- the octets of a packet: its length counts these four octets and the data, the high octet first
abbrev pub laid_packet : Packet → List ℕ
laid_packet packet =
    packet.code ∷ packet.id ∷ ((length packet.body + 4) / 256) ∷ ((length packet.body + 4) % 256) ∷ packet.body

-- the octets are this packet, of at most 1,508 octets, and padding behind it
pub record PacketOf (octets : List ℕ) (packet : Packet) : Type 0 where
  pub padding : List ℕ
  pub are : octets ≡ laid_packet packet ++ padding
  pub within : length packet.body + 4 ≤ MOST_FRAME

-- what the two octets of the length say
abbrev pub length_field : List ℕ → ℕ
length_field octets = slice_index octets 2 * 256 + slice_index octets 3

-- the length is below 4, or above the octets that are there, or above 1,508
abbrev pub HasBadLength : List ℕ → Type 0
HasBadLength octets = (length_field octets < 4) ⊎ ((length octets < length_field octets) ⊎ (MOST_FRAME < length_field octets))

-- the length is 4 or more, within the octets that are there and at most 1,508
abbrev pub has_good_length : List ℕ → Bool
has_good_length octets =
    nat_le 4 (length_field octets) && (nat_le (length_field octets) (length octets) && nat_le (length_field octets) MOST_FRAME)

-- the packet that the octets begin with
abbrev pub packet_front : List ℕ → Packet
packet_front octets =
    record { code = slice_index octets 0; id = slice_index octets 1; body = take (length_field octets - 4) (drop 4 octets) }

-- the packet that octets are, if they are one
unfoldable pub packet_in : List ℕ → Option Packet
packet_in octets = if nat_le 4 (length octets) && has_good_length octets then Some (packet_front octets) else None
