-- What a packet that was heard leaves and tells, is what looking back gives.
use Rattle.std.proofs.Common.{◌≡◌, ℕ, ◌+◌, ◌*◌, Bool, true, false, cond, Option, Some, None, List, [], ◌∷◌, ◌++◌, refl, ap, sym, ◌∙◌, subst}
use Rattle.std.specs.Prelude.{◌&&◌, min}
use Rattle.std.specs.List.{list_any}
use Rattle.ppp_fsm.specs.declared.event.FsmEvent.{FsmEvent}
use Rattle.ppp_fsm.specs.declared.event.FsmEvent.TheVariants.{Rca, Rcn}
use Rattle.ppp_fsm.specs.Fsm.{acts_of}
use Rattle.ppp_packet.specs.declared.packet.Packet.{Packet}
use Rattle.ppp_packet.specs.declared.agreed.Agreed.{Agreed}
use Rattle.ppp_packet.specs.OptionsOf.{Item}
use Rattle.ppp_control.specs.declared.judging.Verdict.{Verdict}
use Rattle.ppp_control.specs.declared.classes.HeardAs.{HeardAs}
use Rattle.ppp_control.specs.declared.classes.HeardAs.TheVariants.{Request as Asks, Ack as Acked, Nak as Named, Reject as Rejected, Event, Discarded}
use Rattle.ppp_control.specs.declared.negotiation.Negotiation.{Negotiation}
use Rattle.ppp_control.specs.Class.{heard_as, class_of}
use Rattle.ppp_control.specs.Changes.{by_nak, by_reject}
use Rattle.ppp_control.specs.Given.{Given, by_packet, by_request}
use Rattle.ppp_control.specs.Step.{step_sends}
use Rattle.ppp_control.specs.Verdict.{event_on}
use Rattle.ppp_control.specs.Rules.{Rules, hears, heard_in, changes_heard, changes_in, our_nak, is_scn, verdict_in, comes_heard}
use Rattle.ppp_control.proofs.HeardLemmas.{nak_sent}
use Rattle.ppp_lcp.specs.declared.lcp.Lcp.{Lcp}
use Rattle.ppp_lcp.specs.declared.out.LcpOut.{LcpOut}
use Rattle.ppp_lcp.specs.declared.ours.Ours.{Ours}
use Rattle.ppp_lcp.specs.Magic.{has_magic}
use Rattle.ppp_lcp.specs.Ours.{skipped}
use Rattle.ppp_lcp.specs.Negotiating.{answering, with_packet, with_loops, with_nak, with_reject, with_reply, is_answer, heard_lcp, heard_told}
use Rattle.ppp_lcp.specs.Object.{magic_now, verdict_on, limit_of}
use Rattle.ppp_lcp.specs.Session.{LcpCall, is_open_in, magic_in, own_by, own_requests, in_a_row, is_loop, is_reply_by, unanswered_in, reply_to, rules, session_after, StandsFor, called, agreed_after, method_refused_by, network_refused_by, Tells}
use Rattle.ppp_lcp.specs.Taking.{ours_of, asks, after_nak, after_reject}
use Rattle.ppp_lcp.proofs.OursLemmas.{nak_back, reject_back, our_nak_back, asks_back}
use Rattle.ppp_lcp.proofs.SessionLemmas.{step_stands, quiet_stands, left_at, step_call, one_loop}
use Rattle.ppp_lcp.proofs.AgreedLemmas.{agreed_same}

in_row : (own : Bool) (n : ℕ) (rest : List Bool) → n ≡ min (in_a_row rest) 255 → cond own (min (n + 1) 255) 0 ≡ min (in_a_row (own ∷ rest)) 255
in_row true n rest e = ap (λ x. min (x + 1) 255) e ∙ one_loop (in_a_row rest)
in_row false n rest e = refl

never : (b : Bool) → (b && false) ≡ false
never true = refl
never false = refl

-- no reply to an echo
same_count : (opened : Bool) (n m : ℕ) → n ≡ m → n ≡ cond (opened && false) 0 m
same_count opened n m e = e ∙ ap (λ b. cond b 0 m) (sym (never opened))

-- an event, where the packet is this
heard_step : (words : ℕ) (past : List LcpCall) (now : ℕ) (p : Packet) (event : FsmEvent) (g : Given) (l : Lcp) (o : Ours) (loops count : ℕ) (h : HeardAs) → StandsFor l.wish words l past → h ≡ heard_in true past p
    → class_of (verdict_in (rules l.wish words) past tt) h ≡ Some event
    → g ≡ comes_heard (rules l.wish words) past now p tt event h
    → o ≡ ours_of l.wish words (changes_heard (step_sends g event l.core) h ++ changes_in true past)
    → loops ≡ min (in_a_row (own_by (magic_in l.wish words past) h ++ own_requests l.wish words past)) 255
    → count ≡ cond (is_open_in l.wish past && is_reply_by (magic_in l.wish words past) p h) 0 (min (unanswered_in l.wish words past) 255)
    → StandsFor l.wish words (left_at event g now l o loops count) (step_call (hears p tt) now g event l ∷ past)
heard_step words past now p event g l o loops count h s e is comes ours row answered =
    let r : Rules (Unit {0}) = rules l.wish words in
    step_stands words past now (hears p tt) event g l o loops count s
    (ap (λ k. class_of (verdict_in r past tt) k) (sym e) ∙ is)
    (comes ∙ ap (λ k. comes_heard r past now p tt event k) e)
    (ours ∙ ap (λ k. ours_of l.wish words (changes_heard (step_sends g event l.core) k ++ changes_in true past)) e)
    (row ∙ ap (λ k. min (in_a_row (own_by (magic_in l.wish words past) k ++ own_requests l.wish words past)) 255) e)
    (answered ∙ ap (λ k. cond (is_open_in l.wish past && is_reply_by (magic_in l.wish words past) p k) 0 (min (unanswered_in l.wish words past) 255)) e)

-- and what it tells
heard_tells : (words : ℕ) (past : List LcpCall) (now : ℕ) (p : Packet) (l : Lcp) (out : LcpOut) (h : HeardAs) → h ≡ heard_in true past p
    → out.loops ≡ min (in_a_row (own_by (magic_in l.wish words past) h ++ own_requests l.wish words past)) 255 → out.unanswered ≡ 0
    → out.auth_refused ≡ method_refused_by h → out.network_refused ≡ network_refused_by (agreed_after l.wish past) p h → Tells l.wish words (hears p tt) now out past
heard_tells words past now p l out h e row unanswered auth network = record {
  loops = row ∙ ap (λ k. min (in_a_row (own_by (magic_in l.wish words past) k ++ own_requests l.wish words past)) 255) e;
  unanswered = unanswered;
  auth_refused = auth ∙ ap method_refused_by e;
  network_refused = network ∙ ap (λ k. network_refused_by (agreed_after l.wish past) p k) e;
}

grouped : (a b c d : Bool) → (a && b && c && d) ≡ (a && (b && c && d))
grouped true b c d = refl
grouped false b c d = refl

request_row : (words : ℕ) (past : List LcpCall) (items : List Item) (l : Lcp) → StandsFor l.wish words l past
    → (with_loops l items).loops ≡ min (in_a_row (is_loop (magic_in l.wish words past) items ∷ own_requests l.wish words past)) 255
request_row words past items l s =
    in_row (is_loop (magic_now l) items) l.loops (own_requests l.wish words past) (ap (λ (x : Lcp). x.loops) s.session)
    ∙ ap (λ (x : Lcp). min (in_a_row (is_loop (magic_now x) items ∷ own_requests l.wish words past)) 255) s.session

request_stands : (words : ℕ) (past : List LcpCall) (now : ℕ) (p : Packet) (items : List Item) (l : Lcp) → StandsFor l.wish words l past → Asks items ≡ heard_in true past p
    → StandsFor l.wish words (heard_lcp l p now (Asks items)) (called (hears p tt) now (heard_told l p now (Asks items)) ∷ past)
request_stands words past now p items l s e =
    let v : Verdict = verdict_on l items in
    let event : FsmEvent = event_on v in
    let g : Given = answering l p items now in
    let sends : Bool = list_any is_scn (acts_of l.core.fsm event) in
    heard_step words past now p event g l _ _ l.unanswered (Asks items) s e
    (ap (λ (x : Lcp). Some (event_on (verdict_on x items))) (sym s.session))
    (ap (λ (x : Lcp). answering x p items now) s.session
    ∙ ap (λ (options : List Item). by_request (l.wish.restart_s * 1000) options now p.id items (verdict_on (session_after l.wish words past) items)) (asks_back l.wish words (changes_in true past)))
    (ap (λ (x : Ours). record x { generator = cond (has_magic v && sends) (skipped x.generator) x.generator }) (ap (λ (x : Lcp). x.ours) s.session)
    ∙ our_nak_back sends p.id v l.wish words (changes_in true past)
    ∙ ap (λ k. ours_of l.wish words (our_nak k ++ changes_in true past)) (sym (nak_sent g event l.core)))
    (request_row words past items l s)
    (same_count (is_open_in l.wish past) l.unanswered _ (ap (λ (x : Lcp). x.unanswered) s.session))

heard_stands : (words : ℕ) (past : List LcpCall) (now : ℕ) (p : Packet) (h : HeardAs) (l : Lcp) → StandsFor l.wish words l past → h ≡ heard_in true past p
    → StandsFor l.wish words (heard_lcp l p now h) (called (hears p tt) now (heard_told l p now h) ∷ past)
heard_stands words past now p (Asks items) l s e = request_stands words past now p items l s e
heard_stands words past now p Acked l s e =
    heard_step words past now p Rca (with_packet l Rca p None now) l l.ours l.loops l.unanswered Acked s e refl
    (ap (λ (x : Lcp). with_packet x Rca p None now) s.session
    ∙ ap (λ (options : List Item). by_packet (l.wish.restart_s * 1000) Rca options now p (limit_of (session_after l.wish words past)) None) (asks_back l.wish words (changes_in true past))) (ap (λ (x : Lcp). x.ours) s.session) (ap (λ (x : Lcp). x.loops) s.session)
    (same_count (is_open_in l.wish past) l.unanswered _ (ap (λ (x : Lcp). x.unanswered) s.session))
heard_stands words past now p (Named items) l s e =
    let ours : after_nak l.wish l.ours items ≡ ours_of l.wish words (changes_heard [] (Named items) ++ changes_in true past) =
    ap (λ (x : Lcp). after_nak l.wish x.ours items) s.session ∙ nak_back l.wish words (changes_in true past) items in
    heard_step words past now p Rcn (with_packet (with_nak l items) Rcn p None now) l (after_nak l.wish l.ours items) l.loops l.unanswered (Named items) s e refl
    (ap (λ (x : Lcp). by_packet x.core.restart_ms Rcn (asks l.wish (after_nak l.wish l.ours items)) now p (limit_of x) None) s.session
    ∙ ap (λ (o : Ours). by_packet (session_after l.wish words past).core.restart_ms Rcn (asks l.wish o) now p (limit_of (session_after l.wish words past)) None) ours
    ∙ ap (λ (options : List Item). by_packet (l.wish.restart_s * 1000) Rcn options now p (limit_of (session_after l.wish words past)) None) (asks_back l.wish words (by_nak items ∷ changes_in true past)))
    ours (ap (λ (x : Lcp). x.loops) s.session)
    (same_count (is_open_in l.wish past) l.unanswered _ (ap (λ (x : Lcp). x.unanswered) s.session))
heard_stands words past now p (Rejected items) l s e =
    let ours : after_reject l.ours items ≡ ours_of l.wish words (changes_heard [] (Rejected items) ++ changes_in true past) =
    ap (λ (x : Lcp). after_reject x.ours items) s.session ∙ reject_back l.wish words (changes_in true past) items in
    heard_step words past now p Rcn (with_packet (with_reject l items) Rcn p None now) l (after_reject l.ours items) l.loops l.unanswered (Rejected items) s e refl
    (ap (λ (x : Lcp). by_packet x.core.restart_ms Rcn (asks l.wish (after_reject l.ours items)) now p (limit_of x) None) s.session
    ∙ ap (λ (o : Ours). by_packet (session_after l.wish words past).core.restart_ms Rcn (asks l.wish o) now p (limit_of (session_after l.wish words past)) None) ours
    ∙ ap (λ (options : List Item). by_packet (l.wish.restart_s * 1000) Rcn options now p (limit_of (session_after l.wish words past)) None) (asks_back l.wish words (by_reject items ∷ changes_in true past)))
    ours (ap (λ (x : Lcp). x.loops) s.session)
    (same_count (is_open_in l.wish past) l.unanswered _ (ap (λ (x : Lcp). x.unanswered) s.session))
heard_stands words past now p (Event event) l s e =
    heard_step words past now p event (with_packet l event p (reply_to (magic_now l) p) now) l l.ours l.loops (with_reply l p).unanswered (Event event) s e refl
    (ap (λ (x : Lcp). with_packet x event p (reply_to (magic_now x) p) now) s.session
    ∙ ap (λ (options : List Item). by_packet (l.wish.restart_s * 1000) event options now p (limit_of (session_after l.wish words past)) (reply_to (magic_now (session_after l.wish words past)) p)) (asks_back l.wish words (changes_in true past))) (ap (λ (x : Lcp). x.ours) s.session) (ap (λ (x : Lcp). x.loops) s.session)
    (ap (λ (x : Lcp). cond (is_answer x p) 0 x.unanswered) s.session)
heard_stands words past now p Discarded l s e =
    quiet_stands words past now (hears p tt) l s
    (ap (λ k. class_of (verdict_in (rules l.wish words) past tt) k) (sym e))
    refl
    (ap (λ k. changes_heard [] k) (sym e))
    (ap (λ k. own_by (magic_in l.wish words past) k) (sym e))
    (ap (λ k. is_open_in l.wish past && is_reply_by (magic_in l.wish words past) p k) (sym e) ∙ never (is_open_in l.wish past))

told_row : (words : ℕ) (past : List LcpCall) (l : Lcp) → StandsFor l.wish words l past → l.loops ≡ min (in_a_row (own_requests l.wish words past)) 255
told_row words past l s = ap (λ (x : Lcp). x.loops) s.session

tells : (words : ℕ) (past : List LcpCall) (now : ℕ) (p : Packet) (h : HeardAs) (l : Lcp) → StandsFor l.wish words l past → h ≡ heard_in true past p → Tells l.wish words (hears p tt) now (heard_told l p now h) past
tells words past now p (Asks items) l s e = heard_tells words past now p l (heard_told l p now (Asks items)) (Asks items) e (request_row words past items l s) refl refl refl
tells words past now p Acked l s e = heard_tells words past now p l (heard_told l p now Acked) Acked e (told_row words past l s) refl refl refl
tells words past now p (Named items) l s e = heard_tells words past now p l (heard_told l p now (Named items)) (Named items) e (told_row words past l s) refl refl refl
tells words past now p (Rejected items) l s e = heard_tells words past now p l (heard_told l p now (Rejected items)) (Rejected items) e (told_row words past l s) refl refl refl
tells words past now p (Event event) l s e =
    heard_tells words past now p l (heard_told l p now (Event event)) (Event event) e (told_row words past l s) refl refl
    (ap (λ (agreed : Option Agreed). network_refused_by agreed p (Event event)) (agreed_same l.wish words l past s))
tells words past now p Discarded l s e = heard_tells words past now p l (heard_told l p now Discarded) Discarded e (told_row words past l s) refl refl refl

pub calls_heard : (words : ℕ) (past : List LcpCall) (now : ℕ) (p : Packet) (l new : Lcp) (out : LcpOut)
    → new ≡ heard_lcp l p now (heard_as l.core.is_lcp l.core.request p) → out ≡ heard_told l p now (heard_as l.core.is_lcp l.core.request p)
    → StandsFor l.wish words l past → StandsFor l.wish words new (called (hears p tt) now out ∷ past) × Tells l.wish words (hears p tt) now out past
calls_heard words past now p l new out left told s =
    let h : HeardAs = heard_as l.core.is_lcp l.core.request p in
    let e : h ≡ heard_in true past p = ap (λ (n : Negotiation). heard_as n.is_lcp n.request p) s.negotiates.state in
    subst (λ (x : Lcp). StandsFor l.wish words x (called (hears p tt) now out ∷ past) × Tells l.wish words (hears p tt) now out past) (sym left)
    (subst (λ (x : LcpOut). StandsFor l.wish words (heard_lcp l p now h) (called (hears p tt) now x ∷ past) × Tells l.wish words (hears p tt) now x past) (sym told)
    (heard_stands words past now p h l s e, tells words past now p h l s e))
