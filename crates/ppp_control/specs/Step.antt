-- A step of a negotiation: what each act of the automaton sends and changes.
use Rattle.std.specs.Prelude.{ℕ, ◌+◌, ◌%◌, min, nat_lt, ◌&&◌, if◌then◌else◌, Option, Some, None, is_some, option_map, option_to_list, List, [], ◌∷◌, ◌++◌}
use Rattle.ppp_base.specs.declared.code.TheConstants.{CODE_REJECT, CONFIGURE_ACK, ECHO_REPLY, TERMINATE_ACK}
use Rattle.ppp_fsm.specs.declared.event.FsmEvent.{FsmEvent}
use Rattle.ppp_fsm.specs.declared.acts.Act.{Act}
use Rattle.ppp_fsm.specs.declared.acts.Act.TheVariants.{Zrc, Scr, Sca, Scn, Str, Sta, Scj, Ser}
use Rattle.ppp_fsm.specs.Fsm.{acts_of, after}
use Rattle.ppp_packet.specs.declared.packet.Packet.{Packet}
use Rattle.ppp_packet.specs.OptionsOf.{laid}
use Rattle.ppp_control.specs.Given.{Given}
use Rattle.ppp_control.specs.OwnPackets.{packet, request_packet, terminate_packet, verdict_packet}
use Rattle.ppp_control.specs.declared.judging.Verdict.{Verdict}
use Rattle.ppp_control.specs.declared.judging.Verdict.TheVariants.{Ack, Nak, Reject}
use Rattle.ppp_control.specs.declared.negotiation.Negotiation.{Negotiation}

-- 255 is followed by 0
abbrev pub next_of : ℕ → ℕ
next_of id = (id + 1) % 256

-- the timer is set anew
abbrev pub restarted : Given → Negotiation → Negotiation
restarted o n = record n { restart_at = Some (o.now + o.restart_ms) }

-- A request that repeats is the last one; any other takes the next identifier and asks anew.
abbrev pub requested : Given → Negotiation → Negotiation
requested o n =
    if o.repeats && is_some n.request then restarted o n
    else restarted o (record n { request = Some (record { id = n.next_id; options = o.asked }); next_id = next_of n.next_id })

abbrev pub terminated : Given → Negotiation → Negotiation
terminated o n =
    if o.repeats && is_some n.terminate then restarted o n
    else restarted o (record n { terminate = Some n.next_id; next_id = next_of n.next_id })

-- A Nak is counted, up to 255.
abbrev pub answered : Verdict → Negotiation → Negotiation
answered Ack n = n
answered (Nak items) n = record n { naks = min (n.naks + 1) 255 }
answered (Reject items) n = n

-- what an act leaves
abbrev pub left_by : Given → Negotiation → Act → Negotiation
left_by o n Scr = requested o n
left_by o n Str = terminated o n
left_by o n Sca = record n { naks = 0; acknowledged = o.theirs }
left_by o n Scn = answered o.verdict n
left_by o n Scj = record n { next_id = next_of n.next_id }
left_by o n Zrc = restarted o n
left_by o n _ = n

-- what an act sends: the last request, or an answer to what was heard
abbrev pub sent_by : Given → Negotiation → Act → Option Packet
sent_by o n Scr = option_map request_packet (requested o n).request
sent_by o n Str = option_map terminate_packet (terminated o n).terminate
sent_by o n Sca = Some (packet CONFIGURE_ACK o.id (laid o.theirs))
sent_by o n Scn = verdict_packet o.id o.verdict
sent_by o n Sta = Some (packet TERMINATE_ACK o.id [])
sent_by o n Scj = Some (packet CODE_REJECT n.next_id o.rejected)
sent_by o n Ser = option_map (λ body. packet ECHO_REPLY o.id body) o.reply
sent_by o n _ = None

-- what acts leave and send, in their order
abbrev pub left_by_all : Given → Negotiation → List Act → Negotiation
left_by_all o n [] = n
left_by_all o n (act ∷ acts) = left_by_all o (left_by o n act) acts

abbrev pub sent_by_all : Given → Negotiation → List Act → List Packet
sent_by_all o n [] = []
sent_by_all o n (act ∷ acts) = option_to_list (sent_by o n act) ++ sent_by_all o (left_by o n act) acts

-- The timer runs in the states 4 to 8.
abbrev pub timed : Negotiation → Negotiation
timed n = if nat_lt n.fsm.state 4 then record n { restart_at = None } else if nat_lt 8 n.fsm.state then record n { restart_at = None } else n

abbrev pub moved : FsmEvent → Negotiation → Negotiation
moved event n = record n { fsm = after n.fsm event }

unfoldable pub stepped : Given → FsmEvent → Negotiation → Negotiation
stepped o event n = timed (left_by_all o (moved event n) (acts_of n.fsm event))

unfoldable pub step_sends : Given → FsmEvent → Negotiation → List Packet
step_sends o event n = sent_by_all o (moved event n) (acts_of n.fsm event)
