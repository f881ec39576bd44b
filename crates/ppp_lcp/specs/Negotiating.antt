-- LCP's steps: what a call of the code leaves, and what it tells.
use Rattle.std.specs.Int.{to_be_bytes, w32}
use Rattle.std.specs.Prelude.{min, not, ℕ, ◌+◌, ◌==◌, ◌&&◌, nat_le, Bool, if◌then◌else◌, Option, Some, None, List, [], ◌∷◌, length}
use Rattle.std.specs.List.{list_any}
use Rattle.ppp_timer.specs.Due.{has_come}
use Rattle.ppp_base.specs.declared.code.TheConstants.{ECHO_REQUEST, PROTOCOL_REJECT}
use Rattle.ppp_fsm.specs.declared.event.FsmEvent.{FsmEvent}
use Rattle.ppp_fsm.specs.declared.event.FsmEvent.TheVariants.{Timeout, Rca, Rcn}
use Rattle.ppp_fsm.specs.declared.acts.Act.{Act}
use Rattle.ppp_fsm.specs.Fsm.{acts_of}
use Rattle.ppp_packet.specs.declared.packet.Packet.{Packet}
use Rattle.ppp_packet.specs.OptionsOf.{Item}
use Rattle.ppp_control.specs.declared.classes.HeardAs.{HeardAs}
use Rattle.ppp_control.specs.declared.classes.HeardAs.TheVariants.{Request as Asks, Ack as Acked, Nak, Reject, Event, Discarded}
use Rattle.ppp_control.specs.Changes.{names_kind}
use Rattle.ppp_control.specs.Given.{Given, alone, by_packet, by_request}
use Rattle.ppp_control.specs.OwnPackets.{packet}
use Rattle.ppp_control.specs.Rules.{is_scn}
use Rattle.ppp_control.specs.Start.{is_due}
use Rattle.ppp_control.specs.Step.{stepped, step_sends, next_of}
use Rattle.ppp_control.specs.Verdict.{event_on}
use Rattle.ppp_lcp.specs.declared.lcp.Lcp.{Lcp}
use Rattle.ppp_lcp.specs.declared.out.LcpOut.{LcpOut}
use Rattle.ppp_lcp.specs.Object.{magic_now, limit_of, verdict_on, agreed_in}
use Rattle.ppp_lcp.specs.Magic.{has_magic, cut_information}
use Rattle.ppp_lcp.specs.Ours.{skipped}
use Rattle.ppp_lcp.specs.Out.{out_of, no_event}
use Rattle.ppp_lcp.specs.Session.{is_loop, is_reply, next_echo, is_lost, mru_in, reply_to, is_needed}
use Rattle.ppp_lcp.specs.Table.{number2}
use Rattle.ppp_lcp.specs.Taking.{asks, after_nak, after_reject}

abbrev pub is_answer : Lcp → Packet → Bool
is_answer l p = l.core.fsm.state == 9 && is_reply (magic_now l) p

abbrev pub with_reply : Lcp → Packet → Lcp
with_reply l p = record l { unanswered = if is_answer l p then 0 else l.unanswered }

abbrev pub with_loops : Lcp → List Item → Lcp
with_loops l items = record l { loops = if is_loop (magic_now l) items then min (l.loops + 1) 255 else 0 }

-- As Opened is entered, nothing is unanswered and the echo timer begins; while it isn't Opened, it doesn't run.
abbrev pub settled : Bool → ℕ → Lcp → Lcp
settled was_open now l = record l {
  unanswered = if l.core.fsm.state == 9 && not was_open then 0 else l.unanswered;
  echo_at = if l.core.fsm.state == 9 then (if was_open then l.echo_at else next_echo l.wish now) else None;
}

abbrev pub lcp_step : FsmEvent → Given → Lcp → Lcp
lcp_step event g l = settled (l.core.fsm.state == 9) g.now (record l { core = stepped g event l.core })

-- what an event leaves to tell
abbrev pub event_out : FsmEvent → Given → Lcp → LcpOut
event_out event g l = out_of event (acts_of l.core.fsm event) (step_sends g event l.core) l.loops

-- an event that comes with no packet
abbrev pub plain : Lcp → FsmEvent → ℕ → Given
plain l event now = alone l.core.restart_ms event (asks l.wish l.ours) now

abbrev pub event_left : FsmEvent → ℕ → Lcp → Lcp
event_left event now l = lcp_step event (plain l event now) l

abbrev pub event_told : FsmEvent → ℕ → Lcp → LcpOut
event_told event now l = event_out event (plain l event now) l

-- what an event comes with, where a packet other than a request was heard
abbrev pub with_packet : Lcp → FsmEvent → Packet → Option (List ℕ) → ℕ → Given
with_packet l event p reply now = by_packet l.core.restart_ms event (asks l.wish l.ours) now p (limit_of l) reply

-- what a request comes with
abbrev pub answering : Lcp → Packet → List Item → ℕ → Given
answering l p items now = by_request l.core.restart_ms (asks l.wish l.ours) now p.id items (verdict_on l items)

-- Whether a Nak with a magic number is sent.
abbrev pub sends_verdict : List Act → Bool
sends_verdict acts = list_any is_scn acts

abbrev pub sends_magic : Lcp → List Item → Bool
sends_magic l items = has_magic (verdict_on l items) && sends_verdict (acts_of l.core.fsm (event_on (verdict_on l items)))

abbrev pub word_spent : Bool → Lcp → Lcp
word_spent test l = record l { ours = record l.ours { generator = if test then skipped l.ours.generator else l.ours.generator } }

abbrev pub after_request : Lcp → Packet → List Item → ℕ → Lcp
after_request l p items now = word_spent (sends_magic l items) (lcp_step (event_on (verdict_on l items)) (answering l p items now) l)

abbrev pub with_nak : Lcp → List Item → Lcp
with_nak l items = record l { ours = after_nak l.wish l.ours items }

abbrev pub with_reject : Lcp → List Item → Lcp
with_reject l items = record l { ours = after_reject l.ours items }

-- what a packet leaves
abbrev pub heard_lcp : Lcp → Packet → ℕ → HeardAs → Lcp
heard_lcp l p now (Asks items) = after_request (with_loops l items) p items now
heard_lcp l p now Acked = lcp_step Rca (with_packet l Rca p None now) l
heard_lcp l p now (Nak items) = lcp_step Rcn (with_packet (with_nak l items) Rcn p None now) (with_nak l items)
heard_lcp l p now (Reject items) = lcp_step Rcn (with_packet (with_reject l items) Rcn p None now) (with_reject l items)
heard_lcp l p now (Event event) = lcp_step event (with_packet l event p (reply_to (magic_now l) p) now) (with_reply l p)
heard_lcp l p now Discarded = l

abbrev pub refused_by : Lcp → Packet → Option ℕ
refused_by l p = if p.code == PROTOCOL_REJECT && nat_le 2 (length p.body) && is_needed (number2 p.body) (agreed_in l) then Some (number2 p.body) else None

-- what is told of a packet
abbrev pub heard_told : Lcp → Packet → ℕ → HeardAs → LcpOut
heard_told l p now (Asks items) = event_out (event_on (verdict_on l items)) (answering l p items now) (with_loops l items)
heard_told l p now Acked = event_out Rca (with_packet l Rca p None now) l
heard_told l p now (Nak items) = event_out Rcn (with_packet (with_nak l items) Rcn p None now) l
heard_told l p now (Reject items) = record (event_out Rcn (with_packet (with_reject l items) Rcn p None now) l) { auth_refused = names_kind 3 items }
heard_told l p now (Event event) = record (event_out event (with_packet l event p (reply_to (magic_now l) p) now) l) { network_refused = refused_by l p }
heard_told l p now Discarded = no_event [] l.loops

-- The echo timer: nothing before it is due; the end where as many as may be have gone unanswered; else an Echo-Request.
abbrev pub is_failed : Lcp → Bool
is_failed l = is_lost l.wish l.unanswered

abbrev pub echo_body : Lcp → List ℕ
echo_body l = to_be_bytes w32 (magic_now l)

abbrev pub echoed : Lcp → ℕ → Lcp
echoed l now =
    if has_come now l.echo_at && not (is_failed l)
    then record l { core = record l.core { next_id = next_of l.core.next_id }; unanswered = min (l.unanswered + 1) 255; echo_at = next_echo l.wish now }
    else l

abbrev pub echo_told : Lcp → ℕ → LcpOut
echo_told l now =
    if has_come now l.echo_at
    then (if is_failed l then record (no_event [] l.loops) { unanswered = l.wish.echo_failure } else no_event (packet ECHO_REQUEST l.core.next_id (echo_body l) ∷ []) l.loops)
    else no_event [] l.loops

-- A restart timer that is due is a timeout; else the echo timer is looked at.
abbrev pub ticked : Lcp → ℕ → Lcp
ticked l now = if is_due l.core now then event_left Timeout now l else echoed l now

abbrev pub ticked_told : Lcp → ℕ → LcpOut
ticked_told l now = if is_due l.core now then event_told Timeout now l else echo_told l now

-- A Protocol-Reject is sent in Opened alone.
abbrev pub rejecting : Lcp → Lcp
rejecting l = if l.core.fsm.state == 9 then record l { core = record l.core { next_id = next_of l.core.next_id } } else l

abbrev pub rejecting_told : Lcp → ℕ → List ℕ → LcpOut
rejecting_told l protocol information =
    if l.core.fsm.state == 9
    then no_event (packet PROTOCOL_REJECT l.core.next_id (cut_information (mru_in l.core.acknowledged) protocol information) ∷ []) l.loops
    else no_event [] l.loops
