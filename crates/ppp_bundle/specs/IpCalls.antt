-- The calls of a bundle's IPCP (RFC 1332), and what follows from them.
use Rattle.std.specs.Prelude.{Bool, true, false, Option, None, Some, List, [], ◌∷◌, if◌then◌else◌}
use Rattle.ppp_base.specs.declared.protocol.TheConstants.{IPCP}
use Rattle.ppp_base.specs.declared.posts.CloseCause.TheVariants.{IpcpFailed, EndedByPeer}
use Rattle.ppp_control.specs.declared.negotiation.StepOut.{StepOut}
use Rattle.ppp_ipcp.specs.Object.{agreed_in}
use Rattle.ppp_packet.specs.declared.packet.Packet.{Packet}
use Rattle.ppp_packet.specs.PacketOf.{laid_packet}
use Rattle.ppp_secrets.specs.declared.secrets.SecretsPair.{SecretsPair}
use Rattle.ppp_unit_parts.specs.declared.live.IpCall.{IpCall}
use Rattle.ppp_unit_parts.specs.declared.live.Live.{Live}
use Rattle.ppp_unit_parts.specs.declared.outbox.Ending.{Ending}
use Rattle.ppp_bundle.specs.Closing.{closed}
use Rattle.ppp_unit_parts.specs.Live.{ending, is_up}
use Rattle.ppp_bundle.specs.ScriptParts.{opened, shut}
use Rattle.ppp_bundle.specs.Sends.{sends}
use Rattle.ppp_bundle.specs.State.{UnitState}
use Rattle.ppp_unit_parts.specs.Calls.{args_of, has_finished, live_left, live_tells, or_none}

-- IPCP's packets, the first first
abbrev pub sends_all : {S : Type 0} → List Packet → UnitState S → UnitState S
sends_all [] u = u
sends_all (p ∷ packets) u = sends_all packets (sends IPCP (laid_packet p) u)

-- IPCP has come to Opened.
abbrev pub went_up_of : {S : Type 0} → Option Live → UnitState S → UnitState S
went_up_of None u = u
went_up_of (Some l) u = record u {
  scripts = opened (args_of u.unit (or_none (agreed_in l.ipcp)) l) u.time u.scripts;
  live = Some (record l { was_open = true; opened_at = u.time; passed_at = u.time });
}

-- IP opens as Opened is entered and closes as it is left.
abbrev pub turned : {S : Type 0} → Bool → Bool → UnitState S → UnitState S
turned false false u = u
turned true true u = u
turned true false u = record u { scripts = shut u.time u.scripts }
turned false true u = went_up_of u.live u

-- IPCP has finished: cause 15 where the peer's Terminate-Request began it, else 14.
abbrev pub finish_of : Bool → Ending
finish_of by_peer = if by_peer then ending EndedByPeer 0 else ending IpcpFailed 0

abbrev pub finished : {S : Type 0} → Bool → Bool → UnitState S → UnitState S
finished has by_peer u = if has then closed (finish_of by_peer) u else u

-- IPCP was called, and told this: what it sends is sent, then IP opens or closes, then the bundle may be at its end.
abbrev pub followed : {S : Type 0} → Bool → Live → StepOut → UnitState S → UnitState S
followed was l out u = finished (has_finished out.acts) l.by_peer (turned was (is_up l) (sends_all out.packets (record u { live = Some l })))

abbrev pub called_of : {S : Type 0} → Option Live → SecretsPair → IpCall → UnitState S → UnitState S
called_of None secrets call u = u
called_of (Some l) secrets call u = followed (is_up l) (live_left secrets u.time call l) (live_tells secrets u.time call l) u

abbrev pub called : {S : Type 0} → SecretsPair → IpCall → UnitState S → UnitState S
called secrets call u = called_of u.live secrets call u
