-- The packets of a negotiation (RFC 1661, section 5).
use Rattle.std.specs.Prelude.{ℕ, Option, Some, None, List, []}
use Rattle.ppp_base.specs.declared.code.TheConstants.{CONFIGURE_NAK, CONFIGURE_REJECT, CONFIGURE_REQUEST, TERMINATE_REQUEST}
use Rattle.ppp_packet.specs.declared.packet.Packet.{Packet}
use Rattle.ppp_packet.specs.OptionsOf.{laid}
use Rattle.ppp_control.specs.declared.parts.Request.{Request}
use Rattle.ppp_control.specs.declared.judging.Verdict.{Verdict}
use Rattle.ppp_control.specs.declared.judging.Verdict.TheVariants.{Ack, Nak, Reject}

abbrev pub packet : ℕ → ℕ → List ℕ → Packet
packet code id body = record { code = code; id = id; body = body }

abbrev pub request_packet : Request → Packet
request_packet r = packet CONFIGURE_REQUEST r.id (laid r.options)

abbrev pub terminate_packet : ℕ → Packet
terminate_packet id = packet TERMINATE_REQUEST id []

abbrev pub verdict_packet : ℕ → Verdict → Option Packet
verdict_packet id Ack = None
verdict_packet id (Nak items) = Some (packet CONFIGURE_NAK id (laid items))
verdict_packet id (Reject items) = Some (packet CONFIGURE_REJECT id (laid items))
