-- What a bundle sends (RFC 1990, sections 3 and 4): a plain bundle the packet as it is, on its one member; a multilink bundle its pieces.
use Rattle.std.specs.Prelude.{ℕ, zero, suc, ◌+◌, ◌-◌, ◌*◌, ◌/◌, ◌%◌, min, nat_lt, false, Option, None, Some, List, [], ◌∷◌, ◌++◌, length, slice_index_or, if◌then◌else◌}
use Rattle.ppp_base.specs.Mrru.{MrruPair}
use Rattle.ppp_base.specs.declared.protocol.TheConstants.{IPCP, MULTILINK}
use Rattle.ppp_mp.specs.declared.cuts.CutPiece.{CutPiece}
use Rattle.ppp_mp.specs.declared.members.MemberView.{MemberView}
use Rattle.ppp_mp.specs.Cut.{piece_size}
use Rattle.ppp_mp.specs.Header.{long_octets, long_space}
use Rattle.ppp_mp.specs.Schedule.{SendingNow, SentPiece, information_of, sending_after, sent_of}
use Rattle.ppp_packet.specs.declared.packet.Packet.{Packet}
use Rattle.ppp_packet.specs.PacketOf.{laid_packet}
use Rattle.ppp_unit_parts.specs.declared.live.Live.{Live}
use Rattle.ppp_unit_parts.specs.declared.member.Member.{Member}
use Rattle.ppp_unit_parts.specs.declared.outbox.Sending.{Sending}
use Rattle.ppp_unit_parts.specs.Member.{views_of}

abbrev pub sending : ℕ → ℕ → List ℕ → Sending
sending link protocol information = record { link = link; protocol = protocol; information = information; rejected = false }

-- on the one member
abbrev pub whole_on : List Member → ℕ → List ℕ → List Sending
whole_on [] protocol information = []
whole_on (m ∷ members) protocol information = sending m.link protocol information ∷ []

-- The packet that is cut: the protocol field, which is one octet below 100 hexadecimal and else two, and the information.
abbrev pub protocol_field : ℕ → List ℕ
protocol_field protocol = if nat_lt protocol 0x100 then protocol ∷ [] else protocol / 256 ∷ protocol % 256 ∷ []

abbrev pub packet_of : ℕ → List ℕ → List ℕ
packet_of protocol information = protocol_field protocol ++ information

-- The cut of a packet of so many octets (`ppp_mp/specs/Cut.antt`), as one list.
abbrev pub cut_at : (len size : ℕ) → List MemberView → (turn j : ℕ) → CutPiece
cut_at len size members turn j = record {
  place = j * size;
  len = min size (len - j * size);
  link = (slice_index_or members ((turn + j) % length members) (record { link = 1; mru = 128 })).link;
}

abbrev pub cuts_from : (len size : ℕ) → List MemberView → (turn j count : ℕ) → List CutPiece
cuts_from len size members turn j zero = []
cuts_from len size members turn j (suc count) = cut_at len size members turn j ∷ cuts_from len size members turn (j + 1) count

abbrev pub cut_of : (len : ℕ) → List MemberView → (turn : ℕ) → List CutPiece
cut_of len members turn =
    let size = piece_size long_octets len members in cuts_from len size members turn 0 ((len + size - 1) / size)

-- the pieces from this number on, each with its header
abbrev pub with_headers : (number : ℕ) → List SentPiece → List Sending
with_headers number [] = []
with_headers number (piece ∷ pieces) = sending piece.link MULTILINK (information_of long_space long_octets number piece) ∷ with_headers (number + 1) pieces

-- where there is no member, nothing is sent
abbrev pub pieces_of : SendingNow → List MemberView → List ℕ → List Sending
pieces_of now [] packet = []
pieces_of now (m ∷ members) packet =
    let cuts = cut_of (length packet) (m ∷ members) now.turn in with_headers now.number (sent_of packet (length cuts) 0 cuts)

abbrev pub after_pieces : SendingNow → List MemberView → List ℕ → SendingNow
after_pieces now [] packet = now
after_pieces now (m ∷ members) packet = sending_after long_space now (length (m ∷ members)) (length (cut_of (length packet) (m ∷ members) now.turn))

-- what a packet is sent as, and the bundle then
abbrev pub sent_as : Live → Option MrruPair → ℕ → List ℕ → List Sending
sent_as l None protocol information = whole_on l.members protocol information
sent_as l (Some mrru) protocol information = pieces_of l.pieces (views_of l.members) (packet_of protocol information)

abbrev pub left_by_sending : Live → Option MrruPair → ℕ → List ℕ → Live
left_by_sending l None protocol information = l
left_by_sending l (Some mrru) protocol information = record l { pieces = after_pieces l.pieces (views_of l.members) (packet_of protocol information) }

-- what waits once packets of IPCP were sent, one after the other, and the bundle then
abbrev pub all_sent : Live → List Packet → List Sending → List Sending
all_sent l [] sent = sent
all_sent l (p ∷ packets) sent = all_sent (left_by_sending l l.mrru IPCP (laid_packet p)) packets (sent ++ sent_as l l.mrru IPCP (laid_packet p))

abbrev pub left_by_all : Live → List Packet → Live
left_by_all l [] = l
left_by_all l (p ∷ packets) = left_by_all (left_by_sending l l.mrru IPCP (laid_packet p)) packets
