-- What a message of a packet socket is.
use Rattle.std.specs.Prelude.{ℕ, ◌<◌, List, [], ◌∷◌, length, Option, Some, None, nat_lt, nat_le, ◌&&◌, if◌then◌else◌}
use Rattle.ppp_outside.specs.declared.iface.UnitDatagram.{UnitDatagram}

-- the packet of a message, an octet with the unit's number and the datagram: none for another unit, for no datagram octet, and
-- above 2,048 of them
abbrev pub packet_of : List ℕ → Option UnitDatagram
packet_of [] = None
packet_of (unit ∷ octets) =
    if nat_lt unit 16 && (nat_lt 0 (length octets) && nat_le (length octets) 2048)
    then Some (record { unit = unit; datagram = octets })
    else None

-- A packet has at least one octet.
abbrev pub IsFilled : Option UnitDatagram → Type 0
IsFilled None = Unit {0}
IsFilled (Some packet) = 0 < length packet.datagram
