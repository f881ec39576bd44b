-- What comes to a bundle: frames of links, packets that were gathered of pieces, and datagrams for the peer.
use Rattle.std.specs.Prelude.{ℕ, ◌+◌, ◌*◌, ◌%◌, ◌==◌, ◌||◌, nat_lt, nat_le, Option, None, Some, List, [], ◌∷◌, ◌++◌, length, if◌then◌else◌}
use Rattle.ppp_base.specs.Mrru.{MrruPair}
use Rattle.ppp_base.specs.RingAfter.{one_more}
use Rattle.ppp_base.specs.declared.protocol.TheConstants.{IP, IPCP, LCP}
use Rattle.ppp_packet.specs.declared.packet.Packet.{Packet}
use Rattle.ppp_packet.specs.PacketOf.{packet_in}
use Rattle.ppp_secrets.specs.declared.secrets.SecretsPair.{SecretsPair}
use Rattle.ppp_unit_parts.specs.declared.live.Live.{Live}
use Rattle.ppp_unit_parts.specs.declared.live.IpCall.TheVariants.{Hears}
use Rattle.ppp_bundle.specs.Closing.{looked}
use Rattle.ppp_bundle.specs.IpCalls.{called}
use Rattle.ppp_bundle.specs.Sends.{rejection, sends}
use Rattle.ppp_bundle.specs.State.{UnitState, is_open, members_of}
use Rattle.ppp_unit_parts.specs.Live.{most_to_peer, most_of_ours}

-- Counts stand still at the end of a u64.
abbrev pub not_open : {S : Type 0} → UnitState S → UnitState S
not_open u = record u { counts = record u.counts { not_open = one_more u.counts.not_open } }

abbrev pub stranger : {S : Type 0} → UnitState S → UnitState S
stranger u = record u { counts = record u.counts { stranger = one_more u.counts.stranger } }

abbrev pub too_big : {S : Type 0} → UnitState S → UnitState S
too_big u = record u { counts = record u.counts { too_big = one_more u.counts.too_big } }

abbrev pub bad_inner : {S : Type 0} → UnitState S → UnitState S
bad_inner u = record u { counts = record u.counts { bad_inner = one_more u.counts.bad_inner } }

-- A datagram passed: the time without one begins anew.
abbrev pub passed : ℕ → Option Live → Option Live
passed now None = None
passed now (Some l) = Some (record l { passed_at = now })

abbrev pub with_pass : {S : Type 0} → UnitState S → UnitState S
with_pass u = record u { live = passed u.time u.live }

-- A datagram of the peer's is given in Opened, and else dropped.
abbrev pub gave : {S : Type 0} → List ℕ → UnitState S → UnitState S
gave datagram u = if is_open u.live then with_pass (record u { given = u.given ++ datagram ∷ [] }) else not_open u

-- IPCP hears the packet that octets are, if they are one.
abbrev pub heard : {S : Type 0} → SecretsPair → Option Packet → UnitState S → UnitState S
heard secrets None u = u
heard secrets (Some p) u = called secrets (Hears p) u

-- What a member brings: a datagram, a packet for IPCP, or neither.
abbrev pub brought : {S : Type 0} → SecretsPair → ℕ → List ℕ → UnitState S → UnitState S
brought secrets protocol information u =
    if protocol == IPCP then heard secrets (packet_in information) u
    else if protocol == IP then gave information u
    else u

-- A packet that was gathered: its protocol field is one odd octet, or an even one and then an odd one.
pub record Inner : Type 0 where
  pub protocol : ℕ
  pub information : List ℕ

abbrev pub inner : ℕ → List ℕ → Inner
inner protocol information = record { protocol = protocol; information = information }

abbrev pub inner_of_two : (first : ℕ) → List ℕ → Option Inner
inner_of_two first [] = None
inner_of_two first (second ∷ rest) = if second % 2 == 1 then Some (inner (first * 256 + second) rest) else None

abbrev pub inner_of : List ℕ → Option Inner
inner_of [] = None
inner_of (first ∷ rest) = if first % 2 == 1 then Some (inner first rest) else inner_of_two first rest

-- Its information is no longer than our MRRU (RFC 1990, section 5.1.1). A datagram and a packet for IPCP are used, a packet of LCP is dropped, and any other
-- protocol is rejected by the least member.
abbrev pub rejected : {S : Type 0} → ℕ → List ℕ → UnitState S → UnitState S
rejected protocol information u = record u { sent = u.sent ++ rejection (members_of u.live) protocol information }

abbrev pub used_inner : {S : Type 0} → SecretsPair → Option MrruPair → Option Inner → UnitState S → UnitState S
used_inner secrets mrru None u = bad_inner u
used_inner secrets mrru (Some i) u =
    if nat_lt (most_of_ours mrru) (length i.information) then too_big u
    else if i.protocol == IPCP || i.protocol == IP then brought secrets i.protocol i.information u
    else if i.protocol == LCP then u
    else rejected i.protocol i.information u

-- One that comes after the bundle was closed is dropped.
abbrev pub used_of : {S : Type 0} → Option Live → SecretsPair → List ℕ → UnitState S → UnitState S
used_of None secrets packet u = not_open u
used_of (Some l) secrets packet u = used_inner secrets l.mrru (inner_of packet) u

abbrev pub used : {S : Type 0} → SecretsPair → List ℕ → UnitState S → UnitState S
used secrets packet u = used_of u.live secrets packet u

-- Packets that gathering gives are used in their order, and after each the marks are counted.
abbrev pub used_all : {S : Type 0} → SecretsPair → List (List ℕ) → UnitState S → UnitState S
used_all secrets [] u = u
used_all secrets (packet ∷ packets) u = used_all secrets packets (looked (used secrets packet u))

-- A datagram for the peer is sent in Opened, where the peer takes as many octets, and else dropped.
abbrev pub carried_by : {S : Type 0} → Option Live → List ℕ → UnitState S → UnitState S
carried_by None datagram u = not_open u
carried_by (Some l) datagram u = if nat_le (length datagram) (most_to_peer l) then with_pass (sends IP datagram u) else too_big u

abbrev pub carried : {S : Type 0} → List ℕ → UnitState S → UnitState S
carried datagram u = if is_open u.live then carried_by u.live datagram u else not_open u
