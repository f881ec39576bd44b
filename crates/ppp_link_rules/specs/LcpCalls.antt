-- What LCP's answers lead to: its packets go out, its causes end the session, and as it enters or leaves Opened authentication begins or is closed.
use Rattle.std.specs.Prelude.{ℕ, ◌+◌, ◌==◌, ◌&&◌, nat_le, Bool, true, false, if◌then◌else◌, Option, None, Some, is_some, List}
use Rattle.std.specs.List.{list_any}
use Rattle.ppp_fsm.specs.declared.event.FsmEvent.{FsmEvent}
use Rattle.ppp_fsm.specs.declared.event.FsmEvent.TheVariants.{RxjBad, Rtr, Timeout}
use Rattle.ppp_fsm.specs.declared.acts.Act.{Act}
use Rattle.ppp_fsm.specs.declared.acts.Act.TheVariants.{Tlf}
use Rattle.ppp_packet.specs.declared.packet.Packet.{Packet}
use Rattle.ppp_control.specs.Rules.{Call, hears, rejects}
use Rattle.ppp_lcp.specs.declared.out.LcpOut.{LcpOut}
use Rattle.ppp_mark.specs.Marks.{lcp_open_mark}
use Rattle.ppp_link_rules.specs.declared.cause.Cause.{Cause}
use Rattle.ppp_link_rules.specs.Authentication.{phase_begun}
use Rattle.ppp_link_rules.specs.CauseStatus.{gave_up, looped, no_echo, peer_ended, peer_failed, refused}
use Rattle.ppp_link_rules.specs.Ending.{closed_if, first_caused, is_first, lcp_left, with_call, with_map}
use Rattle.ppp_link_rules.specs.LcpAnswer.{lcp_answer}
use Rattle.ppp_link_rules.specs.LinkState.{LinkState, LcpPart, agreed, control, is_open, lcp_state}
use Rattle.ppp_link_rules.specs.Marking.{marked}
use Rattle.ppp_link_rules.specs.Sending.{map_by, packets_sent}

-- WHY AN ANSWER ENDS THE SESSION

abbrev pub is_tlf : Act → Bool
is_tlf Tlf = true
is_tlf _ = false

-- A packet rejected that LCP can't do without, in each state in which that can occur; the peer's Terminate-Request in Opened; and the last timeout
-- in the states 6 to 8.
abbrev pub cause_by_event : Option FsmEvent → ℕ → List Act → Option Cause
cause_by_event None state acts = None
cause_by_event (Some RxjBad) state acts = if nat_le 2 state then Some refused else None
cause_by_event (Some Rtr) state acts = if state == 9 then Some peer_ended else None
cause_by_event (Some Timeout) state acts = if nat_le 6 state && list_any is_tlf acts then Some gave_up else None
cause_by_event (Some _) state acts = None

-- A protocol was refused that the link can't do without; ten requests in a row had our own magic number; the peer refused to prove itself; so many
-- echoes went unanswered.
abbrev pub cause_told : LcpOut → Option Cause
cause_told out =
    if is_some out.network_refused then Some refused
    else if nat_le 10 out.loops then Some looped
    else if out.auth_refused then Some peer_failed
    else if nat_le 1 out.unanswered then Some (no_echo out.unanswered)
    else None

abbrev pub or_else : Option Cause → Option Cause → Option Cause
or_else None other = other
or_else (Some c) other = Some c

-- by the state before the call
abbrev pub cause_of : ℕ → LcpOut → Option Cause
cause_of state out = or_else (cause_by_event out.event state out.acts) (cause_told out)

-- WHAT FOLLOWS FROM OPENED (RFC 1661, section 4.4, This-Layer-Up and This-Layer-Down)

-- its mark, and the agreed map from the next octet on
abbrev pub open_marked : LinkState → LinkState
open_marked s = with_map (map_by (agreed s)) (marked (λ time. lcp_open_mark time ((control s).openings + 1)) s)

-- LCP has entered Opened: authentication begins.
unfoldable pub lcp_entered : LinkState → LinkState
lcp_entered s = phase_begun (open_marked s)

-- by whether LCP was in Opened before a call, and is now
abbrev pub followed_by : Bool → Bool → LinkState → LinkState
followed_by false false s = s
followed_by false true s = lcp_entered s
followed_by true false s = lcp_left s
followed_by true true s = s

abbrev pub followed : Bool → LinkState → LinkState
followed was_open s = followed_by was_open (is_open s) s

-- The mark of the first cause, the packets, what follows from Opened, and the Close that the cause calls for.
unfoldable pub answered : Bool → Option Cause → LcpOut → LinkState → LinkState
answered was_open c out s = closed_if (is_first c s) (followed was_open (packets_sent out.packets (first_caused c s)))

-- THE CALLS

abbrev pub with_answer : Call (Unit {0}) → ℕ → LcpOut → LcpPart → LinkState → LinkState
with_answer call now out part s = answered (is_open s) (cause_of (lcp_state s) out) out (with_call call now out part s)

abbrev pub called_part : Call (Unit {0}) → ℕ → Option LcpPart → LinkState → LinkState
called_part call now None s = s
called_part call now (Some part) s = with_answer call now (lcp_answer s.wish part.words part.calls call now) part s

-- a call of LCP at the link's time, where there is an LCP part
unfoldable pub lcp_called : Call (Unit {0}) → LinkState → LinkState
lcp_called call s = called_part call s.time s.lcp s

-- A protocol of the peer's is rejected. LCP is told no moment of this.
unfoldable pub protocol_rejected : ℕ → List ℕ → LinkState → LinkState
protocol_rejected protocol information s = called_part (rejects protocol information) 0 s.lcp s

-- A packet of LCP was heard; a malformed one is discarded.
abbrev pub lcp_heard : Option Packet → LinkState → LinkState
lcp_heard None s = s
lcp_heard (Some packet) s = lcp_called (hears packet tt) s
