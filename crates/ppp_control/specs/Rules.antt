-- A negotiation by looking back, for any protocol: which event each call is, what the automaton does at it, and what is sent
-- (RFC 1661, sections 4.3 to 4.6 and 5).
use Rattle.std.specs.Prelude.{ℕ, ◌≡◌, nat_le, min, Bool, true, false, if◌then◌else◌, Option, Some, None, List, [], ◌∷◌, ◌++◌, find, ◌==◌}
use Rattle.ppp_timer.specs.Due.{has_come}
use Rattle.ppp_base.specs.declared.code.TheConstants.{CONFIGURE_NAK}
use Rattle.ppp_fsm.specs.declared.event.FsmEvent.{FsmEvent}
use Rattle.ppp_fsm.specs.declared.event.FsmEvent.TheVariants.{Up, Down, Open, Close, Timeout}
use Rattle.ppp_fsm.specs.declared.acts.Act.{Act}
use Rattle.ppp_fsm.specs.declared.acts.Act.TheVariants.{Scn}
use Rattle.ppp_fsm.specs.declared.fsm.Limits.{Limits}
use Rattle.ppp_fsm.specs.Fsm.{Automaton, acts_of}
use Rattle.ppp_packet.specs.declared.packet.Packet.{Packet}
use Rattle.ppp_packet.specs.OptionsOf.{Item}
use Rattle.ppp_packet.specs.OptionList.{items_of}
use Rattle.ppp_control.specs.declared.judging.Verdict.{Verdict}
use Rattle.ppp_control.specs.declared.classes.HeardAs.{HeardAs}
use Rattle.ppp_control.specs.declared.classes.HeardAs.TheVariants.{Request as Asks, Ack as Acked, Nak as Named, Reject as Rejected, Event, Discarded}
use Rattle.ppp_control.specs.declared.negotiation.Negotiation.{Negotiation}
use Rattle.ppp_control.specs.Answers.{Judgement, answer_to}
use Rattle.ppp_control.specs.Changes.{Change, by_nak, by_reject, by_our_nak}
use Rattle.ppp_control.specs.Class.{heard_as, Class}
use Rattle.ppp_control.specs.Given.{Given, alone, by_packet, by_request}
use Rattle.ppp_control.specs.Verdict.{verdict_of}
use Rattle.ppp_control.specs.Past.{Happened, automaton_after, sent_in, last_request, naks_since, restart_after, negotiation_after, IsAcked}
use Rattle.ppp_control.specs.Sent.{sent_at}

-- A call that comes with no packet and has a moment alone.
pub data Alone : Type 0 where
  opens : Alone
  closes : Alone
  comes_up : Alone
  goes_down : Alone

abbrev pub event_of : Alone → FsmEvent
event_of opens = Open
event_of closes = Close
event_of comes_up = Up
event_of goes_down = Down

-- A call: one of these; a tick; a packet that is heard, with what else its protocol is told of it; a protocol of the peer's that is to be rejected, with the information.
pub data Call (A : Type 0) : Type 0 where
  by_itself : Alone → Call A
  ticks : Call A
  hears : Packet → A → Call A
  rejects : ℕ → List ℕ → Call A

-- A call, and what it answered. A history is a list of these, the newest first.
pub record Called (A : Type 0) : Type 0 where
  pub call : Call A
  pub happened : Happened

abbrev pub called_with : {A : Type 0} → Call A → ℕ → Option FsmEvent → List Act → List Packet → Called A
called_with call now event acts packets = record { call = call; happened = record { now = now; event = event; acts = acts; packets = packets } }

abbrev pub happened_in : {A : Type 0} → List (Called A) → List Happened
happened_in [] = []
happened_in (c ∷ past) = c.happened ∷ happened_in past

-- What a packet is, by the last request that was sent before it.
abbrev pub heard_in : {A : Type 0} → Bool → List (Called A) → Packet → HeardAs
heard_in is_lcp past p = heard_as is_lcp (last_request (sent_in (happened_in past))) p

-- whether an act answers a request otherwise than by an Ack
abbrev pub is_scn : Act → Bool
is_scn Scn = true
is_scn _ = false

-- the Nak among the packets that a call sent
abbrev pub is_nak : Packet → Bool
is_nak p = p.code == CONFIGURE_NAK

abbrev pub our_nak : Option Packet → List Change
our_nak None = []
our_nak (Some p) = by_our_nak (items_of p.body) ∷ []

abbrev pub changes_heard : List Packet → HeardAs → List Change
changes_heard packets (Asks items) = our_nak (find is_nak packets)
changes_heard packets Acked = []
changes_heard packets (Named items) = by_nak items ∷ []
changes_heard packets (Rejected items) = by_reject items ∷ []
changes_heard packets (Event event) = []
changes_heard packets Discarded = []

abbrev pub changes_by : {A : Type 0} → Bool → Call A → List Packet → List (Called A) → List Change
changes_by is_lcp (by_itself own) packets past = []
changes_by is_lcp ticks packets past = []
changes_by is_lcp (hears p a) packets past = changes_heard packets (heard_in is_lcp past p)
changes_by is_lcp (rejects protocol information) packets past = []

-- All of them, the newest first.
abbrev pub changes_in : {A : Type 0} → Bool → List (Called A) → List Change
changes_in is_lcp [] = []
changes_in is_lcp (c ∷ past) = changes_by is_lcp c.call c.happened.packets past ++ changes_in is_lcp past

-- What one protocol adds to the negotiation of RFC 1661.
pub record Rules (A : Type 0) : Type 0 where
  -- whether the codes of LCP are known: 8 to 11
  pub is_lcp : Bool
  pub limits : Limits
  pub restart_ms : ℕ
  pub max_failure : ℕ
  -- what a request asks for, after these changes
  pub asks : List Change → List Item
  -- what is thought of an option of the peer's, after these calls
  pub judges : List (Called A) → A → Item → Judgement
  -- the most octets of a packet to the peer
  pub most_octets : List (Called A) → A → ℕ
  -- the data of the Echo-Reply to a packet, if it has one
  pub reply : List (Called A) → Packet → Option (List ℕ)
  -- what a tick sends at which the restart timer isn't due
  pub at_tick : List (Called A) → ℕ → List Packet
  -- what is sent where a protocol of the peer's is to be rejected
  pub on_reject : List (Called A) → ℕ → List ℕ → List Packet

-- The answer to a request (RFC 1661, sections 4.6 and 5.2 to 5.4): after so many Naks since the last Ack that we sent, a Nak becomes a Reject of the same options.
-- A count stands still at 255, which no such number passes.
abbrev pub verdict_in : {A : Type 0} → Rules A → List (Called A) → A → List Item → Verdict
verdict_in r past a items = verdict_of (answer_to (r.judges past a) (nat_le r.max_failure (min (naks_since (sent_in (happened_in past))) 255)) items)

-- The event that a call is: a tick, where the restart timer has come.
abbrev pub event_in : {A : Type 0} → Rules A → List (Called A) → ℕ → Call A → Option FsmEvent
event_in r past now (by_itself own) = Some (event_of own)
event_in r past now ticks = if has_come now (restart_after r.limits r.restart_ms (happened_in past)) then Some Timeout else None
event_in r past now (hears p a) = Class r.is_lcp (last_request (sent_in (happened_in past))) (verdict_in r past a) p
event_in r past now (rejects protocol information) = None

-- What a call comes with. A Nak or a Reject that it hears has changed what a request of this same call asks for; a Nak that it sends hasn't.
abbrev pub comes_heard : {A : Type 0} → Rules A → List (Called A) → ℕ → Packet → A → FsmEvent → HeardAs → Given
comes_heard r past now p a event (Asks items) = by_request r.restart_ms (r.asks (changes_in r.is_lcp past)) now p.id items (verdict_in r past a items)
comes_heard r past now p a event (Event other) = by_packet r.restart_ms event (r.asks (changes_in r.is_lcp past)) now p (r.most_octets past a) (r.reply past p)
comes_heard r past now p a event h = by_packet r.restart_ms event (r.asks (changes_heard [] h ++ changes_in r.is_lcp past)) now p (r.most_octets past a) None

abbrev pub comes_with : {A : Type 0} → Rules A → List (Called A) → ℕ → FsmEvent → Call A → Given
comes_with r past now event (by_itself own) = alone r.restart_ms event (r.asks (changes_in r.is_lcp past)) now
comes_with r past now event ticks = alone r.restart_ms event (r.asks (changes_in r.is_lcp past)) now
comes_with r past now event (hears p a) = comes_heard r past now p a event (heard_in r.is_lcp past p)
comes_with r past now event (rejects protocol information) = alone r.restart_ms event [] now

abbrev pub acts_on : Automaton → Option FsmEvent → List Act
acts_on a None = []
acts_on a (Some event) = acts_of a event

-- What a call sends that is no event: a packet that is discarded has no answer.
abbrev pub aside : {A : Type 0} → Rules A → List (Called A) → ℕ → Call A → List Packet
aside r past now (by_itself own) = []
aside r past now ticks = r.at_tick past now
aside r past now (hears p a) = []
aside r past now (rejects protocol information) = r.on_reject past protocol information

abbrev pub sends_on : {A : Type 0} → Rules A → List (Called A) → ℕ → Call A → Option FsmEvent → List Act → List Packet
sends_on r past now call None acts = aside r past now call
sends_on r past now call (Some event) acts = sent_at (comes_with r past now event call) event (happened_in past) acts

-- A call is the event, does the acts and sends the packets that looking back says.
pub record IsLawful {A : Type 0} (r : Rules A) (c : Called A) (past : List (Called A)) : Type 0 where
  pub event : c.happened.event ≡ event_in r past c.happened.now c.call
  pub acts : c.happened.acts ≡ acts_on (automaton_after r.limits (happened_in past)) c.happened.event
  pub packets : c.happened.packets ≡ sends_on r past c.happened.now c.call c.happened.event c.happened.acts

abbrev pub AllLawful : {A : Type 0} → Rules A → List (Called A) → Type 0
AllLawful r [] = Unit {0}
AllLawful r (c ∷ past) = IsLawful r c past × AllLawful r past

-- A negotiation has come to what looking back over its calls gives, of which each is lawful. In Ack-Rcvd and Opened the peer has acknowledged our last request.
pub record Negotiates {A : Type 0} (r : Rules A) (n : Negotiation) (past : List (Called A)) : Type 0 where
  pub state : n ≡ negotiation_after r.limits r.restart_ms r.is_lcp (happened_in past)
  pub acked : IsAcked r.limits (happened_in past)
  pub lawful : AllLawful r past
