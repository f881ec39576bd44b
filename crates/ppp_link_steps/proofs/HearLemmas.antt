-- A link that hears stays calm, and so does one whose line ends: no packet is an Open.
use Rattle.std.proofs.Common.{◌≡◌, ℕ, Bool, true, false, Option, None, Some, List, [], ◌∷◌, refl, ap}
use Rattle.std.specs.Prelude.{◌==◌, ◌&&◌, if◌then◌else◌, nat_eq, nat_le, nat_lt, length, slice_index}
use Rattle.ppp_chat.specs.Event.{octet_at}
use Rattle.std.specs.Cmp.Lexicographic.{pointwise}
use Rattle.ppp_base.specs.declared.code.TheConstants.{CODE_REJECT, CONFIGURE_ACK, CONFIGURE_NAK, CONFIGURE_REJECT, CONFIGURE_REQUEST, DISCARD_REQUEST, ECHO_REQUEST, PROTOCOL_REJECT, TERMINATE_ACK, TERMINATE_REQUEST}
use Rattle.ppp_control.specs.Class.{ack_heard, asks_of, class_of, code_reject_heard, event_if, heard_as, is_last, is_selection, last_options, nak_heard, nak_of, reject_heard, reject_of}
use Rattle.ppp_control.specs.Rules.{by_itself, goes_down, hears}
use Rattle.ppp_control.specs.Verdict.{event_on}
use Rattle.ppp_control.specs.declared.classes.HeardAs.{HeardAs}
use Rattle.ppp_control.specs.declared.classes.HeardAs.TheVariants as heard_is
use Rattle.ppp_control.specs.declared.judging.Verdict.{Verdict}
use Rattle.ppp_control.specs.declared.judging.Verdict.TheVariants as verdict
use Rattle.ppp_control.specs.declared.parts.Request.{Request}
use Rattle.ppp_fsm.specs.Moving.{is_open_event}
use Rattle.ppp_fsm.specs.declared.event.FsmEvent.{FsmEvent}
use Rattle.ppp_fsm.specs.declared.event.FsmEvent.TheVariants as fsm
use Rattle.ppp_hdlc.specs.Deframing.{heard_at}
use Rattle.ppp_hdlc.specs.declared.heard.Heard.{Heard}
use Rattle.ppp_hdlc.specs.declared.heard.Heard.TheVariants as heard
use Rattle.ppp_link_rules.specs.Authentication.{phase_heard}
use Rattle.ppp_link_rules.specs.Ending.{caused, closed_if, first_caused_by}
use Rattle.ppp_link_rules.specs.Hearing.{frame_taken, heard_taken, octet_taken, octet_to, octets_taken, treated, with_fed}
use Rattle.ppp_link_rules.specs.LcpCalls.{lcp_called, lcp_heard}
use Rattle.ppp_link_rules.specs.LinkPart.{bytes_taken}
use Rattle.ppp_link_rules.specs.LinkState.{Chatting, Framing, LinkState, Listener, Nobody, agreed, has_passed, is_busy, is_open, outcome_of}
use Rattle.ppp_link_rules.specs.Phase.{Discarded, Phase, ToAuth, ToLcp, ToReject, ToTable, Treatment, phase_by}
use Rattle.ppp_link_rules.specs.Sessions.{line_gone, line_gone_if, line_lost, with_line_ended}
use Rattle.ppp_link_rules.specs.declared.cause.Cause.{Cause}
use Rattle.ppp_packet.specs.OptionList.{read_options}
use Rattle.ppp_packet.specs.OptionsOf.{Item, laid}
use Rattle.ppp_packet.specs.PacketOf.{packet_in}
use Rattle.ppp_packet.specs.declared.packet.Packet.{Packet}
use Rattle.ppp_link_steps.proofs.CalmLemmas.{Hushes, IsNoOpen, Keeps, calm_keeps, caused_hushes, hushes_then, keeps, keeps_same, keeps_then, lcp_called_keeps, looked_keeps, no_open_down, opens_by, phase_keeps, rejected_keeps, shut_then}
use Rattle.ppp_link_steps.proofs.TalkLemmas.{chat_calm, chats_talking}
use Rattle.ppp_link_steps.specs.Calm.{IsCalm, IsStill, is_chatting}

-- NO PACKET IS AN OPEN

record IsQuiet (h : HeardAs) : Type 0 where
  event : (answer : List Item → Verdict) → opens_by (class_of answer h) ≡ false

either : (b : Bool) (x y : HeardAs) → IsQuiet x → IsQuiet y → IsQuiet (if b then x else y)
either true x y p q = p
either false x y p q = q

verdict_quiet : (v : Verdict) → is_open_event (event_on v) ≡ false
verdict_quiet verdict.Ack = refl
verdict_quiet (verdict.Nak items) = refl
verdict_quiet (verdict.Reject items) = refl

discarded_quiet : IsQuiet heard_is.Discarded
discarded_quiet = record { event = λ answer. refl }

ack_quiet : IsQuiet heard_is.Ack
ack_quiet = record { event = λ answer. refl }

event_quiet : (event : FsmEvent) → is_open_event event ≡ false → IsQuiet (heard_is.Event event)
event_quiet event e = record { event = λ answer. e }

asks_quiet : (o : Option (List Item)) → IsQuiet (asks_of o)
asks_quiet None = discarded_quiet
asks_quiet (Some items) = record { event = λ answer. verdict_quiet (answer items) }

nak_quiet : (o : Option (List Item)) → IsQuiet (nak_of o)
nak_quiet None = discarded_quiet
nak_quiet (Some items) = record { event = λ answer. refl }

reject_quiet : (many : List Item) (o : Option (List Item)) → IsQuiet (reject_of many o)
reject_quiet many None = discarded_quiet
reject_quiet many (Some items) = either (is_selection items many) (heard_is.Reject items) heard_is.Discarded (record { event = λ answer. refl }) discarded_quiet

event_if_quiet : (b : Bool) (event : FsmEvent) → is_open_event event ≡ false → IsQuiet (event_if b event)
event_if_quiet true event e = event_quiet event e
event_if_quiet false event e = discarded_quiet

code_quiet : (body : List ℕ) → IsQuiet (code_reject_heard body)
code_quiet body = either (nat_lt (length body) 1) _ _ discarded_quiet (either (nat_le 1 (slice_index body 0) && nat_le (slice_index body 0) 7) _ _ (event_quiet fsm.RxjBad refl) (event_quiet fsm.RxjGood refl))

ack_heard_quiet : (request : Option Request) (p : Packet) → IsQuiet (ack_heard request p)
ack_heard_quiet request p = either (is_last request p.id && pointwise nat_eq p.body (laid (last_options request))) _ _ ack_quiet discarded_quiet

nak_heard_quiet : (request : Option Request) (p : Packet) → IsQuiet (nak_heard request p)
nak_heard_quiet request p = either (is_last request p.id) _ _ (nak_quiet (read_options p.body)) discarded_quiet

reject_heard_quiet : (request : Option Request) (p : Packet) → IsQuiet (reject_heard request p)
reject_heard_quiet request p = either (is_last request p.id) _ _ (reject_quiet (last_options request) (read_options p.body)) discarded_quiet

heard_quiet : (is_lcp : Bool) (request : Option Request) (p : Packet) → IsQuiet (heard_as is_lcp request p)
heard_quiet is_lcp request p =
    either (p.code == CONFIGURE_REQUEST) _ _ (asks_quiet (read_options p.body))
    (either (p.code == CONFIGURE_ACK) _ _ (ack_heard_quiet request p)
    (either (p.code == CONFIGURE_NAK) _ _ (nak_heard_quiet request p)
    (either (p.code == CONFIGURE_REJECT) _ _ (reject_heard_quiet request p)
    (either (p.code == TERMINATE_REQUEST) _ _ (event_quiet fsm.Rtr refl)
    (either (p.code == TERMINATE_ACK) _ _ (event_quiet fsm.Rta refl)
    (either (p.code == CODE_REJECT) _ _ (code_quiet p.body)
    (either (is_lcp && p.code == PROTOCOL_REJECT) _ _ (event_if_quiet (nat_le 2 (length p.body)) fsm.RxjGood refl)
    (either (is_lcp && nat_le ECHO_REQUEST p.code && nat_le p.code DISCARD_REQUEST) _ _ (event_if_quiet (nat_le 4 (length p.body)) fsm.Rxr refl) (event_quiet fsm.Ruc refl)))))))))

no_open_heard : (p : Packet) → IsNoOpen (hears p tt)
no_open_heard p = record { event = λ wish words past now. (heard_quiet true _ p).event _ }

-- FRAMES

lcp_heard_keeps : (o : Option Packet) (s : LinkState) → Keeps s (lcp_heard o s)
lcp_heard_keeps None s = keeps s
lcp_heard_keeps (Some p) s = lcp_called_keeps (hears p tt) s (no_open_heard p)

phase_heard_keeps : (protocol : ℕ) (o : Option Packet) (s : LinkState) → Keeps s (phase_heard protocol o s)
phase_heard_keeps protocol None s = keeps s
phase_heard_keeps protocol (Some p) s = phase_keeps _ s

treated_keeps : (t : Treatment) (protocol : ℕ) (information : List ℕ) (s : LinkState) → Keeps s (treated t protocol information s)
treated_keeps ToLcp protocol information s = lcp_heard_keeps (packet_in information) s
treated_keeps ToAuth protocol information s = phase_heard_keeps protocol (packet_in information) s
treated_keeps ToTable protocol information s = keeps_same (record { doing = refl; cause = refl; session = refl; dial = refl; failed = refl; lcp = refl; wish = refl; listener = refl })
treated_keeps ToReject protocol information s = rejected_keeps protocol information s
treated_keeps Discarded protocol information s = keeps s

frame_keeps : (protocol : ℕ) (information : List ℕ) (s : LinkState) → Keeps s (frame_taken protocol information s)
unfolding frame_taken
frame_keeps protocol information s = treated_keeps (Phase (phase_by (is_open s) (has_passed (outcome_of s.auth))) (agreed s) protocol) protocol information s

heard_keeps : (h : Heard) (s : LinkState) → Keeps s (heard_taken h s)
heard_keeps heard.Nothing s = keeps s
heard_keeps (heard.Frame protocol information) s = keeps_then (frame_keeps protocol information s) (looked_keeps _)
heard_keeps (heard.Dropped fault) s = looked_keeps s

-- OCTETS

octet_to_calm : (l : Listener) (octet : ℕ) (s : LinkState) → s.listener ≡ l → IsCalm s → IsCalm (octet_to l octet s)
octet_to_calm Nobody octet s e c = c
octet_to_calm (Chatting calls) octet s e c = chat_calm (octet_at octet s.time) calls s (chats_talking s c (ap is_chatting e)) c
octet_to_calm Framing octet s e c =
    calm_keeps (keeps_then {b = with_fed octet s} (keeps_same (record { doing = refl; cause = refl; session = refl; dial = refl; failed = refl; lcp = refl; wish = refl; listener = refl })) (heard_keeps (heard_at octet s.deframer) (with_fed octet s))) c

pub octet_calm : (octet : ℕ) (s : LinkState) → IsCalm s → IsCalm (octet_taken octet s)
unfolding octet_taken
octet_calm octet s c = octet_to_calm s.listener octet s refl c

pub octets_calm : (octets : List ℕ) (s : LinkState) → IsCalm s → IsCalm (octets_taken octets s)
octets_calm [] s c = c
octets_calm (octet ∷ octets) s c = octets_calm octets (octet_taken octet s) (octet_calm octet s c)

-- a piece of what the line gave
pub bytes_calm : (octets : List ℕ) (s : LinkState) → IsCalm s → IsCalm (bytes_taken octets s)
bytes_calm octets s c =
    octets_calm octets _ (calm_keeps (keeps_same (record { doing = refl; cause = refl; session = refl; dial = refl; failed = refl; lcp = refl; wish = refl; listener = refl })) c)

-- THE LINE ENDS

ended_line_keeps : (s : LinkState) → Keeps s (with_line_ended s)
ended_line_keeps s = record {
  session = refl;
  dial = refl;
  failed = refl;
  hush = λ _. refl;
  still = λ h g. let i : IsStill s = h g in record { shut = i.shut; hushed = refl };
}

hushes_with : (c : Cause) (s : LinkState) → Hushes s (caused c (with_line_ended s))
hushes_with c s =
    let h : Hushes (with_line_ended s) (caused c (with_line_ended s)) = caused_hushes c (with_line_ended s) in
    record { session = h.session; dial = h.dial; failed = h.failed; hushed = h.hushed }

gone_by_keeps : (busy : Bool) (c : Cause) (s : LinkState) → Keeps s (closed_if (true && busy) (lcp_called (by_itself goes_down) (first_caused_by (Some c) busy (with_line_ended s))))
gone_by_keeps true c s = shut_then (hushes_then (hushes_with c s) (lcp_called_keeps (by_itself goes_down) _ no_open_down))
gone_by_keeps false c s = keeps_then (ended_line_keeps s) (lcp_called_keeps (by_itself goes_down) _ no_open_down)

gone_keeps : (c : Cause) (s : LinkState) → Keeps s (line_gone c s)
gone_keeps c s = gone_by_keeps (is_busy s) c s

gone_if_keeps : (lost : Bool) (c : Cause) (s : LinkState) → Keeps s (line_gone_if lost c s)
gone_if_keeps true c s = gone_keeps c s
gone_if_keeps false c s = keeps s

pub lost_keeps : (c : Cause) (s : LinkState) → Keeps s (line_lost c s)
unfolding line_lost
lost_keeps c s = gone_if_keeps _ c s
