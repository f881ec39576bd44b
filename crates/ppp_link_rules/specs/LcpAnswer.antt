-- What LCP answers to a call, by looking back over its calls (RFC 1661).
use Rattle.std.specs.Prelude.{ℕ, min, Option, List, ◌∷◌}
use Rattle.ppp_fsm.specs.declared.event.FsmEvent.{FsmEvent}
use Rattle.ppp_fsm.specs.declared.acts.Act.{Act}
use Rattle.ppp_packet.specs.declared.packet.Packet.{Packet}
use Rattle.ppp_control.specs.Past.{automaton_after}
use Rattle.ppp_control.specs.Rules.{Call, acts_on, called_with, event_in, happened_in, sends_on}
use Rattle.ppp_lcp.specs.declared.out.LcpOut.{LcpOut}
use Rattle.ppp_lcp.specs.declared.wish.LcpWish.{LcpWish}
use Rattle.ppp_lcp.specs.Session.{LcpCall, auth_refused_at, in_a_row, lost_at, network_refused_at, own_requests, rules}

-- what it tells of a call that is this event, does these acts and sends these packets
abbrev pub told_of : LcpWish → ℕ → List LcpCall → Call (Unit {0}) → ℕ → Option FsmEvent → List Act → List Packet → LcpOut
told_of wish words past call now event acts packets = record {
  event = event;
  acts = acts;
  packets = packets;
  loops = min (in_a_row (own_requests wish words (called_with call now event acts packets ∷ past))) 255;
  unanswered = lost_at call event wish words past now;
  auth_refused = auth_refused_at call past;
  network_refused = network_refused_at call wish past;
}

abbrev pub told_with : LcpWish → ℕ → List LcpCall → Call (Unit {0}) → ℕ → Option FsmEvent → List Act → LcpOut
told_with wish words past call now event acts = told_of wish words past call now event acts (sends_on (rules wish words) past now call event acts)

abbrev pub told_at : LcpWish → ℕ → List LcpCall → Call (Unit {0}) → ℕ → Option FsmEvent → LcpOut
told_at wish words past call now event = told_with wish words past call now event (acts_on (automaton_after wish.limits (happened_in past)) event)

-- the answer to a call at a moment, after these calls
unfoldable pub lcp_answer : LcpWish → ℕ → List LcpCall → Call (Unit {0}) → ℕ → LcpOut
lcp_answer wish words past call now = told_at wish words past call now (event_in (rules wish words) past now call)
