-- What a bundle sends (RFC 1990, sections 3 and 4): a plain bundle the packet as it is, on its one member; a multilink bundle its pieces.
use Rattle.std.specs.Prelude.{ℕ, true, Option, None, Some, List, [], ◌∷◌, ◌++◌, take}
use Rattle.ppp_base.specs.declared.octets.TheConstants.{MOST_FRAME}
use Rattle.ppp_unit_parts.specs.declared.live.Live.{Live}
use Rattle.ppp_unit_parts.specs.declared.member.Member.{Member}
use Rattle.ppp_unit_parts.specs.declared.outbox.Sending.{Sending}
use Rattle.ppp_bundle.specs.State.{UnitState}
use Rattle.ppp_unit_parts.specs.Pieces.{left_by_sending, sent_as}

-- A bundle that lives sends a packet.
abbrev pub sends_of : {S : Type 0} → Option Live → ℕ → List ℕ → UnitState S → UnitState S
sends_of None protocol information u = u
sends_of (Some l) protocol information u =
    record u { sent = u.sent ++ sent_as l l.mrru protocol information; live = Some (left_by_sending l l.mrru protocol information) }

abbrev pub sends : {S : Type 0} → ℕ → List ℕ → UnitState S → UnitState S
sends protocol information u = sends_of u.live protocol information u

-- The least member is to reject a protocol (RFC 1661, section 5.7), with at most 1,508 octets of the information.
abbrev pub rejection : List Member → ℕ → List ℕ → List Sending
rejection [] protocol information = []
rejection (m ∷ members) protocol information = record { link = m.link; protocol = protocol; information = take MOST_FRAME information; rejected = true } ∷ []
