-- What a packet that was heard leaves is what looking back gives.
use Rattle.std.proofs.Common.{◌≡◌, ℕ, false, Some, None, List, [], ◌∷◌, ◌++◌, refl, ap, sym, ◌∙◌, subst}
use Rattle.std.specs.Prelude.{find}
use Rattle.ppp_fsm.specs.declared.event.FsmEvent.{FsmEvent}
use Rattle.ppp_fsm.specs.declared.event.FsmEvent.TheVariants.{Rca, Rcn}
use Rattle.ppp_packet.specs.declared.packet.Packet.{Packet}
use Rattle.ppp_control.specs.declared.classes.HeardAs.{HeardAs}
use Rattle.ppp_control.specs.declared.classes.HeardAs.TheVariants.{Request as Asks, Ack as Acked, Nak as Named, Reject as Rejected, Event, Discarded}
use Rattle.ppp_control.specs.declared.negotiation.StepOut.{StepOut}
use Rattle.ppp_control.specs.Class.{heard_as, class_of}
use Rattle.ppp_control.specs.Given.{Given, by_packet}
use Rattle.ppp_control.specs.Rules.{hears, heard_in, is_nak, changes_heard, changes_in, verdict_in, comes_heard}
use Rattle.ppp_control.specs.Step.{stepped, step_sends}
use Rattle.ppp_control.specs.Verdict.{event_on}
use Rattle.ppp_ipcp.specs.declared.ipcp.Ipcp.{Ipcp}
use Rattle.ppp_ipcp.specs.declared.ours.IpOurs.{IpOurs}
use Rattle.ppp_ipcp.specs.declared.wish.IpWish.{IpWish}
use Rattle.ppp_ipcp.specs.Around.{Around}
use Rattle.ppp_ipcp.specs.Object.{verdict_on}
use Rattle.ppp_ipcp.specs.Session.{IpcpCall, ip_rules, StandsFor, called}
use Rattle.ppp_ipcp.specs.Steps.{ip_told, with_packet, answering, with_nak, with_reject, heard_left, heard_told}
use Rattle.ppp_ipcp.specs.Taking.{ours_of, asks, after_nak, after_reject}
use Rattle.ppp_ipcp.proofs.OursLemmas.{nak_back, reject_back, our_nak_back}
use Rattle.ppp_ipcp.proofs.SessionLemmas.{step_stands, quiet_stands}

-- an event, where the packet is this
heard_step : (wish : IpWish) (past : List IpcpCall) (now : ℕ) (p : Packet) (a : Around) (event : FsmEvent) (g : Given) (i : Ipcp) (o : IpOurs) (h : HeardAs) → StandsFor wish i past → h ≡ heard_in false past p
    → class_of (verdict_in (ip_rules wish) past a) h ≡ Some event
    → g ≡ comes_heard (ip_rules wish) past now p a event h
    → o ≡ ours_of wish (changes_heard (step_sends g event i.core) h ++ changes_in false past)
    → StandsFor wish (record i { ours = o; core = stepped g event i.core }) (called (hears p a) now (ip_told event g i) ∷ past)
heard_step wish past now p a event g i o h s e is comes ours =
    step_stands wish past now (hears p a) event g i o s
    (ap (λ k. class_of (verdict_in (ip_rules wish) past a) k) (sym e) ∙ is)
    (comes ∙ ap (λ k. comes_heard (ip_rules wish) past now p a event k) e)
    (ours ∙ ap (λ k. ours_of wish (changes_heard (step_sends g event i.core) k ++ changes_in false past)) e)

-- an answer to our request changes what we ask for
changed_step : (wish : IpWish) (past : List IpcpCall) (now : ℕ) (p : Packet) (a : Around) (i m : Ipcp) (h : HeardAs) → StandsFor wish i past → h ≡ heard_in false past p
    → m.core ≡ i.core → m.wish ≡ i.wish → class_of (verdict_in (ip_rules wish) past a) h ≡ Some Rcn
    → m.ours ≡ ours_of wish (changes_heard [] h ++ changes_in false past)
    → comes_heard (ip_rules wish) past now p a Rcn h ≡ by_packet (ip_rules wish).restart_ms Rcn (asks (ours_of wish (changes_heard [] h ++ changes_in false past))) now p a.mru None
    → changes_heard (step_sends (with_packet m Rcn p a.mru now) Rcn i.core) h ≡ changes_heard [] h
    → StandsFor wish (record i { ours = m.ours; core = stepped (with_packet m Rcn p a.mru now) Rcn i.core }) (called (hears p a) now (ip_told Rcn (with_packet m Rcn p a.mru now) i) ∷ past)
changed_step wish past now p a i m h s e core own is ours comes same =
    heard_step wish past now p a Rcn (with_packet m Rcn p a.mru now) i m.ours h s e is
    (ap (λ ms. by_packet ms Rcn (asks m.ours) now p a.mru None) (ap (λ n. n.restart_ms) core ∙ ap (λ (x : Ipcp). x.core.restart_ms) s.session)
    ∙ ap (λ (o : IpOurs). by_packet (ip_rules wish).restart_ms Rcn (asks o) now p a.mru None) ours
    ∙ sym comes)
    (ours ∙ ap (λ changes. ours_of wish (changes ++ changes_in false past)) (sym same))

heard_stands : (wish : IpWish) (past : List IpcpCall) (now : ℕ) (p : Packet) (a : Around) (h : HeardAs) (i : Ipcp) → StandsFor wish i past → h ≡ heard_in false past p
    → StandsFor wish (heard_left i a p now h) (called (hears p a) now (heard_told i a p now h) ∷ past)
heard_stands wish past now p a (Asks items) i s e =
    let event : FsmEvent = event_on (verdict_on i a.allow a.secrets items) in
    let g : Given = answering i a.allow a.secrets p items now in
    heard_step wish past now p a event g i i.ours (Asks items) s e
    (ap (λ (x : Ipcp). Some (event_on (verdict_on x a.allow a.secrets items))) (sym s.session))
    (ap (λ (x : Ipcp). answering x a.allow a.secrets p items now) s.session)
    (ap (λ (x : Ipcp). x.ours) s.session ∙ our_nak_back (find is_nak (step_sends g event i.core)) wish (changes_in false past))
heard_stands wish past now p a Acked i s e =
    heard_step wish past now p a Rca (with_packet i Rca p a.mru now) i i.ours Acked s e refl
    (ap (λ (x : Ipcp). with_packet x Rca p a.mru now) s.session) (ap (λ (x : Ipcp). x.ours) s.session)
heard_stands wish past now p a (Named items) i s e =
    changed_step wish past now p a i (with_nak i items) (Named items) s e refl refl refl
    (ap (λ (x : Ipcp). after_nak x.wish x.ours items) s.session ∙ nak_back wish (changes_in false past) items) refl refl
heard_stands wish past now p a (Rejected items) i s e =
    changed_step wish past now p a i (with_reject i items) (Rejected items) s e refl refl refl
    (ap (λ (x : Ipcp). after_reject x.ours items) s.session ∙ reject_back wish (changes_in false past) items) refl refl
heard_stands wish past now p a (Event event) i s e =
    heard_step wish past now p a event (with_packet i event p a.mru now) i i.ours (Event event) s e refl
    (ap (λ (x : Ipcp). with_packet x event p a.mru now) s.session) (ap (λ (x : Ipcp). x.ours) s.session)
heard_stands wish past now p a Discarded i s e =
    quiet_stands wish past now (hears p a) i s
    (ap (λ k. class_of (verdict_in (ip_rules wish) past a) k) (sym e))
    refl
    (ap (λ k. changes_heard [] k) (sym e))

pub calls_heard : (wish : IpWish) (past : List IpcpCall) (now : ℕ) (p : Packet) (a : Around) (i new : Ipcp) (out : StepOut)
    → new ≡ heard_left i a p now (heard_as i.core.is_lcp i.core.request p) → out ≡ heard_told i a p now (heard_as i.core.is_lcp i.core.request p)
    → StandsFor wish i past → StandsFor wish new (called (hears p a) now out ∷ past)
calls_heard wish past now p a i new out left told s =
    let h : HeardAs = heard_as i.core.is_lcp i.core.request p in
    let e : h ≡ heard_in false past p = ap (λ (x : Ipcp). heard_as x.core.is_lcp x.core.request p) s.session in
    subst (λ (x : Ipcp). StandsFor wish x (called (hears p a) now out ∷ past)) (sym left)
    (subst (λ (x : StepOut). StandsFor wish (heard_left i a p now h) (called (hears p a) now x ∷ past)) (sym told) (heard_stands wish past now p a h i s e))
