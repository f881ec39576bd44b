-- What a call sends, by looking back over what happened before it: at most one packet for each act (RFC 1661, section 4.4).
use Rattle.std.specs.Prelude.{◌&&◌, if◌then◌else◌, Option, Some, None, is_some, option_map, option_to_list, List, [], ◌∷◌, ◌++◌}
use Rattle.ppp_base.specs.declared.code.TheConstants.{CODE_REJECT, CONFIGURE_ACK, CONFIGURE_REQUEST, ECHO_REPLY, TERMINATE_ACK, TERMINATE_REQUEST}
use Rattle.ppp_fsm.specs.declared.event.FsmEvent.{FsmEvent}
use Rattle.ppp_fsm.specs.declared.acts.Act.{Act}
use Rattle.ppp_fsm.specs.declared.acts.Act.TheVariants.{Scr, Sca, Scn, Str, Sta, Scj, Ser}
use Rattle.ppp_packet.specs.declared.packet.Packet.{Packet}
use Rattle.ppp_packet.specs.OptionsOf.{laid}
use Rattle.ppp_control.specs.Given.{Given}
use Rattle.ppp_control.specs.OwnPackets.{packet, request_packet, terminate_packet, verdict_packet}
use Rattle.ppp_control.specs.Past.{Happened, sent_in, last_of, last_request, id_in, next_id_after, is_timeout}

-- A timeout sends the last request again, any other event a new one with the next identifier.
abbrev pub sent_for : Given → FsmEvent → List Happened → Act → Option Packet
sent_for o event past Scr =
    if is_timeout (Some event) && is_some (last_request (sent_in past)) then option_map request_packet (last_request (sent_in past))
    else Some (packet CONFIGURE_REQUEST (next_id_after past) (laid o.asked))
sent_for o event past Str =
    if is_timeout (Some event) && is_some (option_map id_in (last_of TERMINATE_REQUEST (sent_in past))) then option_map terminate_packet (option_map id_in (last_of TERMINATE_REQUEST (sent_in past)))
    else Some (packet TERMINATE_REQUEST (next_id_after past) [])
sent_for o event past Sca = Some (packet CONFIGURE_ACK o.id (laid o.theirs))
sent_for o event past Scn = verdict_packet o.id o.verdict
sent_for o event past Sta = Some (packet TERMINATE_ACK o.id [])
sent_for o event past Scj = Some (packet CODE_REJECT (next_id_after past) o.rejected)
sent_for o event past Ser = option_map (λ body. packet ECHO_REPLY o.id body) o.reply
sent_for o event past _ = None

-- each act by itself, in their order
abbrev pub each : (Act → Option Packet) → List Act → List Packet
each sent [] = []
each sent (act ∷ acts) = option_to_list (sent act) ++ each sent acts

abbrev pub sent_at : Given → FsmEvent → List Happened → List Act → List Packet
sent_at o event past acts = each (sent_for o event past) acts
