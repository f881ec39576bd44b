-- What a packet is to a negotiation.
use Rattle.std.specs.Prelude.{ℕ, ◌==◌, nat_lt, nat_le, nat_eq, ◌&&◌, Bool, true, false, if◌then◌else◌, Option, Some, None, List, [], ◌∷◌, length, slice_index}
use Rattle.std.specs.Cmp.Lexicographic.{pointwise}
use Rattle.ppp_base.specs.declared.code.TheConstants.{CODE_REJECT, CONFIGURE_ACK, CONFIGURE_NAK, CONFIGURE_REJECT, CONFIGURE_REQUEST, DISCARD_REQUEST, ECHO_REQUEST, PROTOCOL_REJECT, TERMINATE_ACK, TERMINATE_REQUEST}
use Rattle.ppp_fsm.specs.declared.event.FsmEvent.{FsmEvent}
use Rattle.ppp_fsm.specs.declared.event.FsmEvent.TheVariants.{Rca, Rcn, Rtr, Rta, Ruc, RxjGood, RxjBad, Rxr}
use Rattle.ppp_packet.specs.declared.packet.Packet.{Packet}
use Rattle.ppp_packet.specs.OptionsOf.{Item, laid}
use Rattle.ppp_packet.specs.OptionList.{read_options}
use Rattle.ppp_control.specs.declared.parts.Request.{Request}
use Rattle.ppp_control.specs.declared.judging.Verdict.{Verdict}
use Rattle.ppp_control.specs.Verdict.{event_on}
use Rattle.ppp_control.specs.declared.classes.HeardAs.{HeardAs}
use Rattle.ppp_control.specs.declared.classes.HeardAs.TheVariants.{Request as Asks, Ack, Nak, Reject, Event, Discarded}

abbrev pub same_item : Item → Item → Bool
same_item a b = a.kind == b.kind && pointwise nat_eq a.body b.body

-- Whether items are some of others, in their order.
abbrev pub is_selection : List Item → List Item → Bool
is_selection [] [] = true
is_selection (x ∷ few) [] = false
is_selection [] (y ∷ many) = true
is_selection (x ∷ few) (y ∷ many) = if same_item x y then is_selection few many else is_selection (x ∷ few) many

-- the identifier and the options of the last request
abbrev pub is_last : Option Request → ℕ → Bool
is_last None id = false
is_last (Some r) id = r.id == id

abbrev pub last_options : Option Request → List Item
last_options None = []
last_options (Some r) = r.options

abbrev pub asks_of : Option (List Item) → HeardAs
asks_of None = Discarded
asks_of (Some items) = Asks items

abbrev pub nak_of : Option (List Item) → HeardAs
nak_of None = Discarded
nak_of (Some items) = Nak items

abbrev pub reject_of : List Item → Option (List Item) → HeardAs
reject_of many None = Discarded
reject_of many (Some items) = if is_selection items many then Reject items else Discarded

abbrev pub event_if : Bool → FsmEvent → HeardAs
event_if test event = if test then Event event else Discarded

abbrev pub ack_heard : Option Request → Packet → HeardAs
ack_heard request p = if is_last request p.id && pointwise nat_eq p.body (laid (last_options request)) then Ack else Discarded

abbrev pub nak_heard : Option Request → Packet → HeardAs
nak_heard request p = if is_last request p.id then nak_of (read_options p.body) else Discarded

abbrev pub reject_heard : Option Request → Packet → HeardAs
reject_heard request p = if is_last request p.id then reject_of (last_options request) (read_options p.body) else Discarded

abbrev pub code_reject_heard : List ℕ → HeardAs
code_reject_heard body = if nat_lt (length body) 1 then Discarded else if nat_le 1 (slice_index body 0) && nat_le (slice_index body 0) 7 then Event RxjBad else Event RxjGood

-- A packet of LCP, or of another protocol, by its code.
abbrev pub heard_as : Bool → Option Request → Packet → HeardAs
heard_as is_lcp request p =
    if p.code == CONFIGURE_REQUEST then asks_of (read_options p.body)
    else if p.code == CONFIGURE_ACK then ack_heard request p
    else if p.code == CONFIGURE_NAK then nak_heard request p
    else if p.code == CONFIGURE_REJECT then reject_heard request p
    else if p.code == TERMINATE_REQUEST then Event Rtr
    else if p.code == TERMINATE_ACK then Event Rta
    else if p.code == CODE_REJECT then code_reject_heard p.body
    else if is_lcp && p.code == PROTOCOL_REJECT then event_if (nat_le 2 (length p.body)) RxjGood
    else if is_lcp && nat_le ECHO_REQUEST p.code && nat_le p.code DISCARD_REQUEST then event_if (nat_le 4 (length p.body)) Rxr
    else Event Ruc

-- The event, by the answer that a request has.
abbrev pub class_of : (List Item → Verdict) → HeardAs → Option FsmEvent
class_of answer (Asks items) = Some (event_on (answer items))
class_of answer Ack = Some Rca
class_of answer (Nak items) = Some Rcn
class_of answer (Reject items) = Some Rcn
class_of answer (Event event) = Some event
class_of answer Discarded = None

-- The event that a packet is, where this was our last request and a request of the peer's has this answer; none: it is discarded.
abbrev pub Class : Bool → Option Request → (List Item → Verdict) → Packet → Option FsmEvent
Class is_lcp request answer p = class_of answer (heard_as is_lcp request p)
