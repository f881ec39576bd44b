-- IPCP's steps: what a call of the code leaves, and what it tells.
use Rattle.std.specs.Prelude.{ℕ, if◌then◌else◌, Some, None, List, []}
use Rattle.ppp_base.specs.declared.allow.Allow.{Allow}
use Rattle.ppp_fsm.specs.declared.event.FsmEvent.{FsmEvent}
use Rattle.ppp_fsm.specs.declared.event.FsmEvent.TheVariants.{Timeout, Rca, Rcn}
use Rattle.ppp_fsm.specs.Fsm.{acts_of}
use Rattle.ppp_packet.specs.declared.packet.Packet.{Packet}
use Rattle.ppp_packet.specs.OptionsOf.{Item}
use Rattle.ppp_secrets.specs.declared.secrets.SecretsPair.{SecretsPair}
use Rattle.ppp_control.specs.declared.classes.HeardAs.{HeardAs}
use Rattle.ppp_control.specs.declared.classes.HeardAs.TheVariants.{Request as Asks, Ack as Acked, Nak, Reject, Event, Discarded}
use Rattle.ppp_control.specs.declared.negotiation.StepOut.{StepOut}
use Rattle.ppp_control.specs.Given.{Given, alone, by_packet, by_request}
use Rattle.ppp_control.specs.Start.{is_due}
use Rattle.ppp_control.specs.Step.{stepped, step_sends}
use Rattle.ppp_control.specs.Verdict.{event_on}
use Rattle.ppp_ipcp.specs.declared.ipcp.Ipcp.{Ipcp}
use Rattle.ppp_ipcp.specs.Around.{Around}
use Rattle.ppp_ipcp.specs.Object.{verdict_on}
use Rattle.ppp_ipcp.specs.Taking.{asks, after_nak, after_reject}

-- what an event leaves and tells
abbrev pub ip_step : FsmEvent → Given → Ipcp → Ipcp
ip_step event g i = record i { core = stepped g event i.core }

abbrev pub ip_told : FsmEvent → Given → Ipcp → StepOut
ip_told event g i = record { event = Some event; acts = acts_of i.core.fsm event; packets = step_sends g event i.core }

abbrev pub nothing_told : StepOut
nothing_told = record { event = None; acts = []; packets = [] }

-- an event that comes with no packet
abbrev pub plain : Ipcp → FsmEvent → ℕ → Given
plain i event now = alone i.core.restart_ms event (asks i.ours) now

abbrev pub event_left : FsmEvent → ℕ → Ipcp → Ipcp
event_left event now i = ip_step event (plain i event now) i

abbrev pub event_told : FsmEvent → ℕ → Ipcp → StepOut
event_told event now i = ip_told event (plain i event now) i

-- what an event comes with, where a packet other than a request was heard
abbrev pub with_packet : Ipcp → FsmEvent → Packet → ℕ → ℕ → Given
with_packet i event p mru now = by_packet i.core.restart_ms event (asks i.ours) now p mru None

-- what a request comes with
abbrev pub answering : Ipcp → Allow → SecretsPair → Packet → List Item → ℕ → Given
answering i allow secrets p items now = by_request i.core.restart_ms (asks i.ours) now p.id items (verdict_on i allow secrets items)

abbrev pub with_nak : Ipcp → List Item → Ipcp
with_nak i items = record i { ours = after_nak i.wish i.ours items }

abbrev pub with_reject : Ipcp → List Item → Ipcp
with_reject i items = record i { ours = after_reject i.ours items }

-- what a packet leaves, and what it tells
abbrev pub heard_left : Ipcp → Around → Packet → ℕ → HeardAs → Ipcp
heard_left i a p now (Asks items) = ip_step (event_on (verdict_on i a.allow a.secrets items)) (answering i a.allow a.secrets p items now) i
heard_left i a p now Acked = ip_step Rca (with_packet i Rca p a.mru now) i
heard_left i a p now (Nak items) = ip_step Rcn (with_packet (with_nak i items) Rcn p a.mru now) (with_nak i items)
heard_left i a p now (Reject items) = ip_step Rcn (with_packet (with_reject i items) Rcn p a.mru now) (with_reject i items)
heard_left i a p now (Event event) = ip_step event (with_packet i event p a.mru now) i
heard_left i a p now Discarded = i

abbrev pub heard_told : Ipcp → Around → Packet → ℕ → HeardAs → StepOut
heard_told i a p now (Asks items) = ip_told (event_on (verdict_on i a.allow a.secrets items)) (answering i a.allow a.secrets p items now) i
heard_told i a p now Acked = ip_told Rca (with_packet i Rca p a.mru now) i
heard_told i a p now (Nak items) = ip_told Rcn (with_packet (with_nak i items) Rcn p a.mru now) i
heard_told i a p now (Reject items) = ip_told Rcn (with_packet (with_reject i items) Rcn p a.mru now) i
heard_told i a p now (Event event) = ip_told event (with_packet i event p a.mru now) i
heard_told i a p now Discarded = nothing_told

-- A restart timer that is due is a timeout.
abbrev pub ticked : Ipcp → ℕ → Ipcp
ticked i now = record i { core = if is_due i.core now then stepped (plain i Timeout now) Timeout i.core else i.core }

abbrev pub ticked_told : Ipcp → ℕ → StepOut
ticked_told i now = record {
  event = if is_due i.core now then Some Timeout else None;
  acts = if is_due i.core now then acts_of i.core.fsm Timeout else [];
  packets = if is_due i.core now then step_sends (plain i Timeout now) Timeout i.core else [];
}
