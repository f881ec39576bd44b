-- The event and the acts that are told, and the automaton that is left.
use Rattle.std.proofs.Common.{◌≡◌, ℕ, Bool, true, false, cond, Some, None, [], refl, ap, sym, ◌∙◌}
use Rattle.std.specs.Prelude.{◌==◌}
use Rattle.ppp_fsm.specs.declared.event.FsmEvent.{FsmEvent}
use Rattle.ppp_fsm.specs.declared.event.FsmEvent.TheVariants.{Timeout, Rca, Rcn}
use Rattle.ppp_fsm.specs.Fsm.{Automaton, acts_of, after}
use Rattle.ppp_fsm.specs.Opening.{layer_acts, layer_change}
use Rattle.ppp_fsm.proofs.OpeningLemmas.{opens_by_acts}
use Rattle.ppp_packet.specs.declared.packet.Packet.{Packet}
use Rattle.ppp_control.specs.declared.classes.HeardAs.{HeardAs}
use Rattle.ppp_control.specs.declared.classes.HeardAs.TheVariants.{Request as Asks, Ack as Acked, Nak as Named, Reject as Rejected, Event, Discarded}
use Rattle.ppp_control.specs.declared.negotiation.StepOut.{StepOut}
use Rattle.ppp_control.specs.Class.{class_of}
use Rattle.ppp_control.specs.Past.{moved_by}
use Rattle.ppp_control.specs.Rules.{acts_on}
use Rattle.ppp_control.specs.Start.{is_due}
use Rattle.ppp_control.specs.Step.{stepped}
use Rattle.ppp_control.specs.Verdict.{event_on}
use Rattle.ppp_control.proofs.TimingLemmas.{fsm_back, opens_back}
use Rattle.ppp_ipcp.specs.declared.ipcp.Ipcp.{Ipcp}
use Rattle.ppp_ipcp.specs.Around.{Around}
use Rattle.ppp_ipcp.specs.Object.{verdict_on}
use Rattle.ppp_ipcp.specs.Steps.{plain, with_packet, with_nak, with_reject, answering, event_left, event_told, heard_left, heard_told, ticked, ticked_told}

-- Opened is entered and left by the acts.
pub opens_by : (i new : Ipcp) (out : StepOut) → out.acts ≡ acts_on i.core.fsm out.event → new.core.fsm ≡ moved_by out.event i.core.fsm
    → layer_acts out.acts ≡ layer_change (i.core.fsm.state == 9) (new.core.fsm.state == 9)
opens_by i new out e f = ap layer_acts e ∙ opens_back out.event i.core.fsm ∙ ap (λ (a : Automaton). layer_change (i.core.fsm.state == 9) (a.state == 9)) (sym f)

-- an event that comes with no packet
pub left_fsm : (event : FsmEvent) (now : ℕ) (i new : Ipcp) → new ≡ event_left event now i → new.core.fsm ≡ after i.core.fsm event
left_fsm event now i new e = ap (λ (x : Ipcp). x.core.fsm) e ∙ fsm_back (plain i event now) event i.core

pub opens_at : (event : FsmEvent) (now : ℕ) (i new : Ipcp) (out : StepOut) → new ≡ event_left event now i → out ≡ event_told event now i
    → layer_acts out.acts ≡ layer_change (i.core.fsm.state == 9) (new.core.fsm.state == 9)
opens_at event now i new out e f =
    ap (λ (x : StepOut). layer_acts x.acts) f ∙ opens_by_acts i.core.fsm event ∙ ap (λ (a : Automaton). layer_change (i.core.fsm.state == 9) (a.state == 9)) (sym (left_fsm event now i new e))

-- a packet
told_event : (i : Ipcp) (a : Around) (p : Packet) (now : ℕ) (h : HeardAs) → (heard_told i a p now h).event ≡ class_of (λ items. verdict_on i a.allow a.secrets items) h
told_event i a p now (Asks items) = refl
told_event i a p now Acked = refl
told_event i a p now (Named items) = refl
told_event i a p now (Rejected items) = refl
told_event i a p now (Event event) = refl
told_event i a p now Discarded = refl

told_acts : (i : Ipcp) (a : Around) (p : Packet) (now : ℕ) (h : HeardAs) → (heard_told i a p now h).acts ≡ acts_on i.core.fsm (heard_told i a p now h).event
told_acts i a p now (Asks items) = refl
told_acts i a p now Acked = refl
told_acts i a p now (Named items) = refl
told_acts i a p now (Rejected items) = refl
told_acts i a p now (Event event) = refl
told_acts i a p now Discarded = refl

left_heard : (i : Ipcp) (a : Around) (p : Packet) (now : ℕ) (h : HeardAs) → (heard_left i a p now h).core.fsm ≡ moved_by (heard_told i a p now h).event i.core.fsm
left_heard i a p now (Asks items) = fsm_back (answering i a.allow a.secrets p items now) (event_on (verdict_on i a.allow a.secrets items)) i.core
left_heard i a p now Acked = fsm_back (with_packet i Rca p a.mru now) Rca i.core
left_heard i a p now (Named items) = fsm_back (with_packet (with_nak i items) Rcn p a.mru now) Rcn i.core
left_heard i a p now (Rejected items) = fsm_back (with_packet (with_reject i items) Rcn p a.mru now) Rcn i.core
left_heard i a p now (Event event) = fsm_back (with_packet i event p a.mru now) event i.core
left_heard i a p now Discarded = refl

pub heard_event : (i : Ipcp) (a : Around) (p : Packet) (now : ℕ) (h : HeardAs) (out : StepOut) → out ≡ heard_told i a p now h → out.event ≡ class_of (λ items. verdict_on i a.allow a.secrets items) h
heard_event i a p now h out e = ap (λ (x : StepOut). x.event) e ∙ told_event i a p now h

pub heard_acts : (i : Ipcp) (a : Around) (p : Packet) (now : ℕ) (h : HeardAs) (out : StepOut) → out ≡ heard_told i a p now h → out.acts ≡ acts_on i.core.fsm out.event
heard_acts i a p now h out e = ap (λ (x : StepOut). x.acts) e ∙ told_acts i a p now h ∙ ap (λ (x : StepOut). acts_on i.core.fsm x.event) (sym e)

pub heard_fsm : (i : Ipcp) (a : Around) (p : Packet) (now : ℕ) (h : HeardAs) (new : Ipcp) (out : StepOut) → new ≡ heard_left i a p now h → out ≡ heard_told i a p now h → new.core.fsm ≡ moved_by out.event i.core.fsm
heard_fsm i a p now h new out e f = ap (λ (x : Ipcp). x.core.fsm) e ∙ left_heard i a p now h ∙ ap (λ (x : StepOut). moved_by x.event i.core.fsm) (sym f)

-- a tick
tick_fsm : (due : Bool) (now : ℕ) (i : Ipcp) → (cond due (stepped (plain i Timeout now) Timeout i.core) i.core).fsm ≡ moved_by (cond due (Some Timeout) None) i.core.fsm
tick_fsm true now i = fsm_back (plain i Timeout now) Timeout i.core
tick_fsm false now i = refl

pub ticked_fsm : (now : ℕ) (i new : Ipcp) (out : StepOut) → new ≡ ticked i now → out ≡ ticked_told i now → new.core.fsm ≡ moved_by out.event i.core.fsm
ticked_fsm now i new out e f = ap (λ (x : Ipcp). x.core.fsm) e ∙ tick_fsm (is_due i.core now) now i ∙ ap (λ (x : StepOut). moved_by x.event i.core.fsm) (sym f)

tick_acts : (due : Bool) (a : Automaton) → cond due (acts_of a Timeout) [] ≡ acts_on a (cond due (Some Timeout) None)
tick_acts true a = refl
tick_acts false a = refl

pub ticked_acts : (now : ℕ) (i : Ipcp) (out : StepOut) → out ≡ ticked_told i now → out.acts ≡ acts_on i.core.fsm out.event
ticked_acts now i out e = ap (λ (x : StepOut). x.acts) e ∙ tick_acts (is_due i.core now) i.core.fsm ∙ ap (λ (x : StepOut). acts_on i.core.fsm x.event) (sym e)
