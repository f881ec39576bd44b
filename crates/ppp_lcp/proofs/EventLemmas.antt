-- The event and the acts that are told, and the automaton that is left.
use Rattle.std.proofs.Common.{◌≡◌, ℕ, ◌+◌, Bool, true, false, cond, Option, Some, None, List, [], ◌∷◌, refl, ap, sym, ◌∙◌}
use Rattle.std.specs.Prelude.{◌==◌, ◌&&◌, not, min}
use Rattle.ppp_timer.specs.Due.{has_come}
use Rattle.ppp_fsm.specs.declared.event.FsmEvent.{FsmEvent}
use Rattle.ppp_fsm.specs.declared.event.FsmEvent.TheVariants.{Timeout, Rca, Rcn}
use Rattle.ppp_fsm.specs.Fsm.{Automaton, after}
use Rattle.ppp_fsm.specs.Opening.{layer_acts, layer_change}
use Rattle.ppp_fsm.proofs.OpeningLemmas.{opens_by_acts}
use Rattle.ppp_packet.specs.declared.packet.Packet.{Packet}
use Rattle.ppp_control.specs.declared.classes.HeardAs.{HeardAs}
use Rattle.ppp_control.specs.declared.classes.HeardAs.TheVariants.{Request as Asks, Ack as Acked, Nak as Named, Reject as Rejected, Event, Discarded}
use Rattle.ppp_control.specs.Class.{class_of}
use Rattle.ppp_control.specs.Past.{moved_by}
use Rattle.ppp_control.specs.OwnPackets.{packet}
use Rattle.ppp_control.specs.Rules.{acts_on}
use Rattle.ppp_control.specs.Start.{is_due}
use Rattle.ppp_control.specs.Step.{next_of}
use Rattle.ppp_control.specs.Verdict.{event_on}
use Rattle.ppp_control.proofs.TimingLemmas.{fsm_back, opens_back}
use Rattle.ppp_lcp.specs.declared.lcp.Lcp.{Lcp}
use Rattle.ppp_lcp.specs.declared.out.LcpOut.{LcpOut}
use Rattle.ppp_lcp.specs.Magic.{cut_information}
use Rattle.ppp_lcp.specs.Out.{no_event}
use Rattle.ppp_lcp.specs.Session.{mru_in, next_echo}
use Rattle.ppp_lcp.specs.Negotiating.{plain, with_packet, with_nak, with_reject, with_loops, answering, event_left, event_told, heard_lcp, heard_told, is_failed, echo_body, echoed, echo_told, ticked, ticked_told, rejecting, rejecting_told}
use Rattle.ppp_lcp.specs.Object.{verdict_on}

-- Opened is entered and left by the acts.
pub opens_by : (l new : Lcp) (out : LcpOut) → out.acts ≡ acts_on l.core.fsm out.event → new.core.fsm ≡ moved_by out.event l.core.fsm
    → layer_acts out.acts ≡ layer_change (l.core.fsm.state == 9) (new.core.fsm.state == 9)
opens_by l new out e f = ap layer_acts e ∙ opens_back out.event l.core.fsm ∙ ap (λ (a : Automaton). layer_change (l.core.fsm.state == 9) (a.state == 9)) (sym f)

-- an event that comes with no packet
pub left_fsm : (event : FsmEvent) (now : ℕ) (l new : Lcp) → new ≡ event_left event now l → new.core.fsm ≡ after l.core.fsm event
left_fsm event now l new e = ap (λ (x : Lcp). x.core.fsm) e ∙ fsm_back (plain l event now) event l.core

pub opens_at : (event : FsmEvent) (now : ℕ) (l new : Lcp) (out : LcpOut) → new ≡ event_left event now l → out ≡ event_told event now l
    → layer_acts out.acts ≡ layer_change (l.core.fsm.state == 9) (new.core.fsm.state == 9)
opens_at event now l new out e f =
    ap (λ (x : LcpOut). layer_acts x.acts) f ∙ opens_by_acts l.core.fsm event ∙ ap (λ (a : Automaton). layer_change (l.core.fsm.state == 9) (a.state == 9)) (sym (left_fsm event now l new e))

-- a packet
told_event : (p : Packet) (now : ℕ) (l : Lcp) (h : HeardAs) → (heard_told l p now h).event ≡ class_of (λ items. verdict_on l items) h
told_event p now l (Asks items) = refl
told_event p now l Acked = refl
told_event p now l (Named items) = refl
told_event p now l (Rejected items) = refl
told_event p now l (Event event) = refl
told_event p now l Discarded = refl

told_acts : (p : Packet) (now : ℕ) (l : Lcp) (h : HeardAs) → (heard_told l p now h).acts ≡ acts_on l.core.fsm (heard_told l p now h).event
told_acts p now l (Asks items) = refl
told_acts p now l Acked = refl
told_acts p now l (Named items) = refl
told_acts p now l (Rejected items) = refl
told_acts p now l (Event event) = refl
told_acts p now l Discarded = refl

left_heard : (p : Packet) (now : ℕ) (l : Lcp) (h : HeardAs) → (heard_lcp l p now h).core.fsm ≡ moved_by (heard_told l p now h).event l.core.fsm
left_heard p now l (Asks items) = fsm_back (answering (with_loops l items) p items now) (event_on (verdict_on l items)) l.core
left_heard p now l Acked = fsm_back (with_packet l Rca p None now) Rca l.core
left_heard p now l (Named items) = fsm_back (with_packet (with_nak l items) Rcn p None now) Rcn l.core
left_heard p now l (Rejected items) = fsm_back (with_packet (with_reject l items) Rcn p None now) Rcn l.core
left_heard p now l (Event event) = fsm_back _ event l.core
left_heard p now l Discarded = refl

pub heard_event : (p : Packet) (now : ℕ) (l : Lcp) (h : HeardAs) (out : LcpOut) → out ≡ heard_told l p now h → out.event ≡ class_of (λ items. verdict_on l items) h
heard_event p now l h out e = ap (λ (x : LcpOut). x.event) e ∙ told_event p now l h

pub heard_acts : (p : Packet) (now : ℕ) (l : Lcp) (h : HeardAs) (out : LcpOut) → out ≡ heard_told l p now h → out.acts ≡ acts_on l.core.fsm out.event
heard_acts p now l h out e = ap (λ (x : LcpOut). x.acts) e ∙ told_acts p now l h ∙ ap (λ (x : LcpOut). acts_on l.core.fsm x.event) (sym e)

pub heard_fsm : (p : Packet) (now : ℕ) (l : Lcp) (h : HeardAs) (new : Lcp) (out : LcpOut) → new ≡ heard_lcp l p now h → out ≡ heard_told l p now h → new.core.fsm ≡ moved_by out.event l.core.fsm
heard_fsm p now l h new out e f = ap (λ (x : Lcp). x.core.fsm) e ∙ left_heard p now l h ∙ ap (λ (x : LcpOut). moved_by x.event l.core.fsm) (sym f)

-- a tick
echo_no_event : (due failed : Bool) (l : Lcp) → (cond due (cond failed (record (no_event [] l.loops) { unanswered = l.wish.echo_failure }) (no_event (packet 9 l.core.next_id (echo_body l) ∷ []) l.loops)) (no_event [] l.loops)).event ≡ None
echo_no_event true true l = refl
echo_no_event true false l = refl
echo_no_event false failed l = refl

echo_no_acts : (due failed : Bool) (l : Lcp) → (cond due (cond failed (record (no_event [] l.loops) { unanswered = l.wish.echo_failure }) (no_event (packet 9 l.core.next_id (echo_body l) ∷ []) l.loops)) (no_event [] l.loops)).acts ≡ []
echo_no_acts true true l = refl
echo_no_acts true false l = refl
echo_no_acts false failed l = refl

echo_no_move : (sends : Bool) (now : ℕ) (l : Lcp) → (cond sends (record l { core = record l.core { next_id = next_of l.core.next_id }; unanswered = min (l.unanswered + 1) 255; echo_at = next_echo l.wish now }) l).core.fsm ≡ l.core.fsm
echo_no_move true now l = refl
echo_no_move false now l = refl

tick_event : (due : Bool) (now : ℕ) (l : Lcp) → (cond due (event_told Timeout now l) (echo_told l now)).event ≡ cond due (Some Timeout) None
tick_event true now l = refl
tick_event false now l = echo_no_event (has_come now l.echo_at) (is_failed l) l

tick_acts : (due : Bool) (now : ℕ) (l : Lcp) → (cond due (event_told Timeout now l) (echo_told l now)).acts ≡ acts_on l.core.fsm (cond due (Some Timeout) None)
tick_acts true now l = refl
tick_acts false now l = echo_no_acts (has_come now l.echo_at) (is_failed l) l

tick_fsm : (due : Bool) (now : ℕ) (l : Lcp) → (cond due (event_left Timeout now l) (echoed l now)).core.fsm ≡ moved_by (cond due (Some Timeout) None) l.core.fsm
tick_fsm true now l = fsm_back (plain l Timeout now) Timeout l.core
tick_fsm false now l = echo_no_move (has_come now l.echo_at && not (is_failed l)) now l

pub ticked_event : (now : ℕ) (l : Lcp) (out : LcpOut) → out ≡ ticked_told l now → out.event ≡ cond (is_due l.core now) (Some Timeout) None
ticked_event now l out e = ap (λ (x : LcpOut). x.event) e ∙ tick_event (is_due l.core now) now l

pub ticked_acts : (now : ℕ) (l : Lcp) (out : LcpOut) → out ≡ ticked_told l now → out.acts ≡ acts_on l.core.fsm out.event
ticked_acts now l out e = ap (λ (x : LcpOut). x.acts) e ∙ tick_acts (is_due l.core now) now l ∙ ap (λ (x : Option FsmEvent). acts_on l.core.fsm x) (sym (ticked_event now l out e))

pub ticked_fsm : (now : ℕ) (l new : Lcp) (out : LcpOut) → new ≡ ticked l now → out ≡ ticked_told l now → new.core.fsm ≡ moved_by out.event l.core.fsm
ticked_fsm now l new out e f = ap (λ (x : Lcp). x.core.fsm) e ∙ tick_fsm (is_due l.core now) now l ∙ ap (λ (x : Option FsmEvent). moved_by x l.core.fsm) (sym (ticked_event now l out f))

-- a Protocol-Reject
reject_parts : (opened : Bool) (protocol : ℕ) (information : List ℕ) (l : Lcp)
    → ((cond opened (no_event (packet 8 l.core.next_id (cut_information (mru_in l.core.acknowledged) protocol information) ∷ []) l.loops) (no_event [] l.loops)).event ≡ None)
    × ((cond opened (no_event (packet 8 l.core.next_id (cut_information (mru_in l.core.acknowledged) protocol information) ∷ []) l.loops) (no_event [] l.loops)).acts ≡ [])
reject_parts true protocol information l = (refl, refl)
reject_parts false protocol information l = (refl, refl)

pub rejecting_event : (protocol : ℕ) (information : List ℕ) (l : Lcp) (out : LcpOut) → out ≡ rejecting_told l protocol information → out.event ≡ None
rejecting_event protocol information l out e = ap (λ (x : LcpOut). x.event) e ∙ (reject_parts (l.core.fsm.state == 9) protocol information l).0

pub rejecting_acts : (protocol : ℕ) (information : List ℕ) (l : Lcp) (out : LcpOut) → out ≡ rejecting_told l protocol information → out.acts ≡ []
rejecting_acts protocol information l out e = ap (λ (x : LcpOut). x.acts) e ∙ (reject_parts (l.core.fsm.state == 9) protocol information l).1

pub rejecting_fsm : (l new : Lcp) → new ≡ rejecting l → new.core.fsm ≡ l.core.fsm
rejecting_fsm l new e = ap (λ (x : Lcp). x.core.fsm) e ∙ by_state (l.core.fsm.state == 9) l
  where
    by_state : (opened : Bool) (l : Lcp) → (cond opened (record l { core = record l.core { next_id = next_of l.core.next_id } }) l).core.fsm ≡ l.core.fsm
    by_state true l = refl
    by_state false l = refl
