-- What a negotiation has come to, by looking back over what happened (RFC 1661, sections 4.4 to 4.6 and 5).
use Rattle.std.specs.Prelude.{ℕ, ◌≡◌, ◌+◌, ◌%◌, ◌==◌, min, not, nat_lt, nat_le, ◌&&◌, ◌||◌, Bool, true, false, if◌then◌else◌, Option, Some, None, is_some, option_map, List, [], ◌∷◌, find}
use Rattle.ppp_base.specs.declared.code.TheConstants.{CODE_REJECT, CONFIGURE_ACK, CONFIGURE_NAK, CONFIGURE_REQUEST, ECHO_REQUEST, TERMINATE_REQUEST}
use Rattle.ppp_fsm.specs.declared.event.FsmEvent.{FsmEvent}
use Rattle.ppp_fsm.specs.declared.event.FsmEvent.TheVariants.{Timeout, Rca}
use Rattle.ppp_fsm.specs.declared.acts.Act.{Act}
use Rattle.ppp_fsm.specs.declared.acts.Act.TheVariants.{Zrc, Scr, Str}
use Rattle.ppp_fsm.specs.declared.fsm.Limits.{Limits}
use Rattle.ppp_fsm.specs.Fsm.{Automaton, after}
use Rattle.ppp_packet.specs.declared.packet.Packet.{Packet}
use Rattle.ppp_packet.specs.OptionsOf.{Item}
use Rattle.ppp_packet.specs.OptionList.{items_of}
use Rattle.ppp_control.specs.declared.parts.Request.{Request}
use Rattle.ppp_control.specs.declared.negotiation.Negotiation.{Negotiation}

-- What a call answered, and its moment: the event that it was, the acts, and the packets that were sent, in their order.
pub record Happened : Type 0 where
  pub now : ℕ
  pub event : Option FsmEvent
  pub acts : List Act
  pub packets : List Packet

-- The automaton, after the events.
abbrev pub moved_by : Option FsmEvent → Automaton → Automaton
moved_by None a = a
moved_by (Some event) a = after a event

abbrev pub automaton_after : Limits → List Happened → Automaton
automaton_after limits [] = record { configure = limits.configure; terminate = limits.terminate; state = 0; counter = 0 }
automaton_after limits (h ∷ past) = moved_by h.event (automaton_after limits past)

-- the packets that were sent, the newest first
abbrev pub onto : List Packet → List Packet → List Packet
onto [] sent = sent
onto (p ∷ packets) sent = onto packets (p ∷ sent)

abbrev pub sent_in : List Happened → List Packet
sent_in [] = []
sent_in (h ∷ past) = onto h.packets (sent_in past)

-- the last one of a code
abbrev pub last_of : ℕ → List Packet → Option Packet
last_of code sent = find (λ p. p.code == code) sent

abbrev pub request_in : Packet → Request
request_in p = record { id = p.id; options = items_of p.body }

abbrev pub last_request : List Packet → Option Request
last_request sent = option_map request_in (last_of CONFIGURE_REQUEST sent)

abbrev pub id_in : Packet → ℕ
id_in p = p.id

-- the options that a packet carries, if there is one
abbrev pub options_in : Option Packet → List Item
options_in None = []
options_in (Some p) = items_of p.body

-- how many Naks were sent since the last Ack
abbrev pub naks_since : List Packet → ℕ
naks_since [] = 0
naks_since (p ∷ sent) = if p.code == CONFIGURE_ACK then 0 else if p.code == CONFIGURE_NAK then naks_since sent + 1 else naks_since sent

-- Whether the restart timer ran out.
abbrev pub is_timeout : Option FsmEvent → Bool
is_timeout (Some Timeout) = true
is_timeout _ = false

-- Which packets of our own take the next identifier: a request that isn't sent again at a timeout, a Code-Reject 7, a Protocol-Reject 8 and
-- an Echo-Request 9. Each of the others answers the peer, or repeats.
abbrev pub takes_id : Bool → List Packet → Packet → Bool
takes_id repeats sent p =
    if p.code == CONFIGURE_REQUEST || p.code == TERMINATE_REQUEST then not (repeats && is_some (last_of p.code sent))
    else nat_le CODE_REJECT p.code && nat_le p.code ECHO_REQUEST

abbrev pub taken_by : Bool → List Packet → List Packet → ℕ
taken_by repeats sent [] = 0
taken_by repeats sent (p ∷ packets) = if takes_id repeats sent p then taken_by repeats (p ∷ sent) packets + 1 else taken_by repeats (p ∷ sent) packets

abbrev pub taken_in : List Happened → ℕ
taken_in [] = 0
taken_in (h ∷ past) = taken_in past + taken_by (is_timeout h.event) (sent_in past) h.packets

-- The first identifier is 1, and 255 is followed by 0.
abbrev pub next_id_after : List Happened → ℕ
next_id_after past = (1 + taken_in past) % 256

-- whether acts set the timer anew
abbrev pub sets_timer : List Act → Bool
sets_timer [] = false
sets_timer (Zrc ∷ acts) = true
sets_timer (Scr ∷ acts) = true
sets_timer (Str ∷ acts) = true
sets_timer (_ ∷ acts) = sets_timer acts

-- In the states 4 to 8 the timer is due so long after the last acts that set it; in the others it doesn't run.
abbrev pub restart_after : Limits → ℕ → List Happened → Option ℕ
restart_after limits restart_ms [] = None
restart_after limits restart_ms (h ∷ past) =
    if nat_lt (automaton_after limits (h ∷ past)).state 4 then None
    else if nat_lt 8 (automaton_after limits (h ∷ past)).state then None
    else if sets_timer h.acts then Some (h.now + restart_ms)
    else restart_after limits restart_ms past

-- The negotiation as a whole.
abbrev pub negotiation_after : Limits → ℕ → Bool → List Happened → Negotiation
negotiation_after limits restart_ms is_lcp past = record {
  restart_ms = restart_ms;
  is_lcp = is_lcp;
  fsm = automaton_after limits past;
  next_id = next_id_after past;
  request = last_request (sent_in past);
  terminate = option_map id_in (last_of TERMINATE_REQUEST (sent_in past));
  naks = min (naks_since (sent_in past)) 255;
  acknowledged = options_in (last_of CONFIGURE_ACK (sent_in past));
  restart_at = restart_after limits restart_ms past;
}

-- The last request of ours that the peer acknowledged: an Ack that counts is one of the last request.
abbrev pub is_rca : Option FsmEvent → Bool
is_rca (Some Rca) = true
is_rca _ = false

abbrev pub last_acked : List Happened → Option Packet
last_acked [] = None
last_acked (h ∷ past) = if is_rca h.event then last_of CONFIGURE_REQUEST (sent_in past) else last_acked past

-- In Ack-Rcvd and in Opened that is the last request that was sent.
abbrev pub has_ack : ℕ → Bool
has_ack state = state == 7 || state == 9

pub record IsAcked (limits : Limits) (past : List Happened) : Type 0 where
  pub last : has_ack (automaton_after limits past).state ≡ true → last_of CONFIGURE_REQUEST (sent_in past) ≡ last_acked past

-- Whether the layer is up.
abbrev pub is_open_after : Limits → List Happened → Bool
is_open_after limits past = (automaton_after limits past).state == 9

-- The options that both ends acknowledged, in Opened alone: of the last request of ours that the peer did, and of the last of the peer's that we did.
pub record Agreement : Type 0 where
  pub ours : List Item
  pub theirs : List Item

abbrev pub agreement_after : Limits → List Happened → Option Agreement
agreement_after limits past = if is_open_after limits past then Some (record { ours = options_in (last_acked past); theirs = options_in (last_of CONFIGURE_ACK (sent_in past)) }) else None
