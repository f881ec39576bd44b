-- What a call of LCP tells.
use Rattle.std.specs.Prelude.{ℕ, false, None, Some, List, []}
use Rattle.ppp_fsm.specs.declared.event.FsmEvent.{FsmEvent}
use Rattle.ppp_fsm.specs.declared.acts.Act.{Act}
use Rattle.ppp_packet.specs.declared.packet.Packet.{Packet}
use Rattle.ppp_lcp.specs.declared.out.LcpOut.{LcpOut}

-- an event, its acts and packets, and how many requests in a row had our magic number
abbrev pub out_of : FsmEvent → List Act → List Packet → ℕ → LcpOut
out_of event acts packets loops = record { event = Some event; acts = acts; packets = packets; loops = loops; unanswered = 0; auth_refused = false; network_refused = None }

-- no event happens
abbrev pub no_event : List Packet → ℕ → LcpOut
no_event packets loops = record { event = None; acts = []; packets = packets; loops = loops; unanswered = 0; auth_refused = false; network_refused = None }
