-- The timer that is kept is the one that looking back gives.
use Rattle.std.proofs.Common.{◌≡◌, ℕ, ◌+◌, ◌%◌, Bool, true, false, cond, Option, Some, None, List, [], ◌∷◌, refl, ap, sym, ◌∙◌}
use Rattle.std.specs.Prelude.{◌==◌, nat_lt, is_some, ◌&&◌}
use Rattle.ppp_fsm.specs.declared.event.FsmEvent.{FsmEvent}
use Rattle.ppp_fsm.specs.declared.acts.Act.{Act}
use Rattle.ppp_fsm.specs.declared.acts.Act.TheVariants.{Tlu, Tld, Tls, Tlf, Irc, Zrc, Scr, Sca, Scn, Str, Sta, Scj, Ser}
use Rattle.ppp_fsm.specs.Fsm.{Automaton, acts_of}
use Rattle.ppp_fsm.specs.Opening.{layer_acts, layer_change}
use Rattle.ppp_fsm.proofs.OpeningLemmas.{opens_by_acts}
use Rattle.ppp_control.specs.Rules.{acts_on}
use Rattle.ppp_control.specs.declared.negotiation.Negotiation.{Negotiation}
use Rattle.ppp_control.specs.declared.judging.Verdict.{Verdict}
use Rattle.ppp_control.specs.declared.judging.Verdict.TheVariants.{Ack, Nak, Reject}
use Rattle.ppp_control.specs.Given.{Given}
use Rattle.ppp_control.specs.Step.{left_by, left_by_all, requested, terminated, answered, moved, stepped, step_sends, next_of}
use Rattle.ppp_control.specs.OwnPackets.{packet}
use Rattle.ppp_fsm.specs.Fsm.{after}
use Rattle.ppp_fsm.specs.declared.fsm.Limits.{Limits}
use Rattle.ppp_packet.specs.declared.packet.Packet.{Packet}
use Rattle.ppp_control.specs.Past.{Happened, sets_timer, onto, taken_by, taken_in, sent_in, is_timeout, automaton_after, negotiation_after, restart_after, moved_by}
use Rattle.ppp_control.proofs.PastLemmas.{SameSettings, acts_settings, timed_settings, Follows, acts_back, acts_fsm, follows_timed, follows_moved, same_negotiation, no_more, next_taken}

either_way : {A : Type 0} (b : Bool) (x : A) → cond b x x ≡ x
either_way true x = refl
either_way false x = refl

timer_of_choice : (b : Bool) (m n : Negotiation) (t : Option ℕ) → m.restart_at ≡ t → n.restart_at ≡ t → (cond b m n).restart_at ≡ t
timer_of_choice true m n t e f = e
timer_of_choice false m n t e f = f

requested_timer : (o : Given) (n : Negotiation) → (requested o n).restart_at ≡ Some (o.now + o.restart_ms)
requested_timer o n = timer_of_choice (o.repeats && is_some n.request) _ _ _ refl refl

terminated_timer : (o : Given) (n : Negotiation) → (terminated o n).restart_at ≡ Some (o.now + o.restart_ms)
terminated_timer o n = timer_of_choice (o.repeats && is_some n.terminate) _ _ _ refl refl

answered_timer : (v : Verdict) (n : Negotiation) → (answered v n).restart_at ≡ n.restart_at
answered_timer Ack n = refl
answered_timer (Nak items) n = refl
answered_timer (Reject items) n = refl

-- the timer after acts
acts_timer : (o : Given) (n : Negotiation) (acts : List Act) → (left_by_all o n acts).restart_at ≡ cond (sets_timer acts) (Some (o.now + o.restart_ms)) n.restart_at
acts_timer o n [] = refl
acts_timer o n (Scr ∷ acts) = acts_timer o (requested o n) acts ∙ ap (λ t. cond (sets_timer acts) (Some (o.now + o.restart_ms)) t) (requested_timer o n) ∙ either_way (sets_timer acts) (Some (o.now + o.restart_ms))
acts_timer o n (Str ∷ acts) = acts_timer o (terminated o n) acts ∙ ap (λ t. cond (sets_timer acts) (Some (o.now + o.restart_ms)) t) (terminated_timer o n) ∙ either_way (sets_timer acts) (Some (o.now + o.restart_ms))
acts_timer o n (Zrc ∷ acts) = acts_timer o (left_by o n Zrc) acts ∙ either_way (sets_timer acts) (Some (o.now + o.restart_ms))
acts_timer o n (Scn ∷ acts) = acts_timer o (answered o.verdict n) acts ∙ ap (λ t. cond (sets_timer acts) (Some (o.now + o.restart_ms)) t) (answered_timer o.verdict n)
acts_timer o n (Sca ∷ acts) = acts_timer o (left_by o n Sca) acts
acts_timer o n (Scj ∷ acts) = acts_timer o (left_by o n Scj) acts
acts_timer o n (Tlu ∷ acts) = acts_timer o n acts
acts_timer o n (Tld ∷ acts) = acts_timer o n acts
acts_timer o n (Tls ∷ acts) = acts_timer o n acts
acts_timer o n (Tlf ∷ acts) = acts_timer o n acts
acts_timer o n (Irc ∷ acts) = acts_timer o n acts
acts_timer o n (Sta ∷ acts) = acts_timer o n acts
acts_timer o n (Ser ∷ acts) = acts_timer o n acts

-- stopping it changes nothing else
stopped_timer : (low high : Bool) (n : Negotiation) → (cond low (record n { restart_at = None }) (cond high (record n { restart_at = None }) n)).restart_at ≡ cond low None (cond high None n.restart_at)
stopped_timer true high n = refl
stopped_timer false true n = refl
stopped_timer false false n = refl

stopped_state : (low high : Bool) (n : Negotiation) → (cond low (record n { restart_at = None }) (cond high (record n { restart_at = None }) n)).fsm ≡ n.fsm
stopped_state true high n = refl
stopped_state false true n = refl
stopped_state false false n = refl

pub timer_back : (o : Given) (event : FsmEvent) (n : Negotiation)
    → (stepped o event n).restart_at ≡ cond (nat_lt (after n.fsm event).state 4) None (cond (nat_lt 8 (after n.fsm event).state) None (cond (sets_timer (acts_of n.fsm event)) (Some (o.now + o.restart_ms)) n.restart_at))
unfolding stepped
timer_back o event n =
    let acts = acts_of n.fsm event in
    let m : Negotiation = left_by_all o (moved event n) acts in
    stopped_timer (nat_lt m.fsm.state 4) (nat_lt 8 m.fsm.state) m
    ∙ ap (λ t. cond (nat_lt m.fsm.state 4) None (cond (nat_lt 8 m.fsm.state) None t)) (acts_timer o (moved event n) acts)
    ∙ ap (λ f. cond (nat_lt f.state 4) None (cond (nat_lt 8 f.state) None (cond (sets_timer acts) (Some (o.now + o.restart_ms)) n.restart_at))) (acts_fsm o acts (moved event n))

pub fsm_back : (o : Given) (event : FsmEvent) (n : Negotiation) → (stepped o event n).fsm ≡ after n.fsm event
unfolding stepped
fsm_back o event n =
    let m : Negotiation = left_by_all o (moved event n) (acts_of n.fsm event) in
    stopped_state (nat_lt m.fsm.state 4) (nat_lt 8 m.fsm.state) m ∙ acts_fsm o (acts_of n.fsm event) (moved event n)

settings_back : (o : Given) (event : FsmEvent) (n : Negotiation) → SameSettings (stepped o event n) n
unfolding stepped
settings_back o event n =
    let m : Negotiation = left_by_all o (moved event n) (acts_of n.fsm event) in
    let timing = timed_settings (nat_lt m.fsm.state 4) (nat_lt 8 m.fsm.state) m in
    let acting = acts_settings o (acts_of n.fsm event) (moved event n) in
    record { restart_ms = timing.restart_ms ∙ acting.restart_ms; is_lcp = timing.is_lcp ∙ acting.is_lcp }

pub follows_back : (o : Given) (event : FsmEvent) (n : Negotiation) (log : List Packet) (t : ℕ) → Follows o.repeats n log t
    → Follows o.repeats (stepped o event n) (onto (step_sends o event n) log) (t + taken_by o.repeats log (step_sends o event n))
unfolding stepped step_sends
follows_back o event n log t h =
    let m : Negotiation = left_by_all o (moved event n) (acts_of n.fsm event) in
    follows_timed (nat_lt m.fsm.state 4) (nat_lt 8 m.fsm.state) o.repeats m _ _ (acts_back o (acts_of n.fsm event) (moved event n) log t (follows_moved (after n.fsm event) o.repeats n log t h))

-- A step of what looking back gives is what looking back gives with it.
pub step_back : (limits : Limits) (is_lcp : Bool) (past : List Happened) (o : Given) (event : FsmEvent) (n : Negotiation) → n ≡ negotiation_after limits o.restart_ms is_lcp past → o.repeats ≡ is_timeout (Some event)
    → stepped o event n ≡ negotiation_after limits o.restart_ms is_lcp (record { now = o.now; event = Some event; acts = acts_of n.fsm event; packets = step_sends o event n } ∷ past)
step_back limits is_lcp past o event n e repeats =
    let t : ℕ = taken_in past in
    let log : List Packet = sent_in past in
    let before : Follows o.repeats n log t = record { request = ap (λ x. x.request) e; terminate = ap (λ x. x.terminate) e; naks = ap (λ x. x.naks) e; acknowledged = ap (λ x. x.acknowledged) e; next_id = ap (λ x. x.next_id) e } in
    let now = follows_back o event n log t before in
    let fsm : n.fsm ≡ automaton_after limits past = ap (λ x. x.fsm) e in
    let settings = settings_back o event n in
    same_negotiation _ _
    (settings.restart_ms ∙ ap (λ x. x.restart_ms) e)
    (settings.is_lcp ∙ ap (λ x. x.is_lcp) e)
    (fsm_back o event n ∙ ap (λ a. after a event) fsm)
    (now.next_id ∙ ap (λ b. (1 + (t + taken_by b log (step_sends o event n))) % 256) repeats)
    now.request now.terminate now.naks now.acknowledged
    (timer_back o event n
    ∙ ap (λ a. cond (nat_lt (after a event).state 4) None (cond (nat_lt 8 (after a event).state) None (cond (sets_timer (acts_of n.fsm event)) (Some (o.now + o.restart_ms)) n.restart_at))) fsm
    ∙ ap (λ r. cond (nat_lt (after (automaton_after limits past) event).state 4) None (cond (nat_lt 8 (after (automaton_after limits past) event).state) None (cond (sets_timer (acts_of n.fsm event)) (Some (o.now + o.restart_ms)) r))) (ap (λ x. x.restart_at) e))

-- Where no event happens, the timer stays.
stays : (low high : Bool) (y : Option ℕ) → cond low None (cond high None (cond low None (cond high None y))) ≡ cond low None (cond high None y)
stays true high y = refl
stays false true y = refl
stays false false y = refl

timer_stays : (limits : Limits) (ms now : ℕ) (packets : List Packet) (past : List Happened)
    → restart_after limits ms (record { now = now; event = None; acts = []; packets = packets } ∷ past) ≡ restart_after limits ms past
timer_stays limits ms now packets [] = refl
timer_stays limits ms now packets (h ∷ past) =
    let state : ℕ = (automaton_after limits (h ∷ past)).state in
    stays (nat_lt state 4) (nat_lt 8 state) (cond (sets_timer h.acts) (Some (h.now + ms)) (restart_after limits ms past))

pub quiet_back : (limits : Limits) (ms : ℕ) (is_lcp : Bool) (now : ℕ) (past : List Happened)
    → negotiation_after limits ms is_lcp (record { now = now; event = None; acts = []; packets = [] } ∷ past) ≡ negotiation_after limits ms is_lcp past
quiet_back limits ms is_lcp now past = same_negotiation _ _ refl refl refl (ap (λ x. (1 + x) % 256) (sym (no_more (taken_in past)))) refl refl refl refl (timer_stays limits ms now [] past)

-- A packet that takes an identifier and is no answer: an Echo-Request or a Protocol-Reject.
pub numbered_back : (limits : Limits) (ms : ℕ) (is_lcp : Bool) (now : ℕ) (is_echo : Bool) (id : ℕ) (body : List ℕ) (past : List Happened)
    → negotiation_after limits ms is_lcp (record { now = now; event = None; acts = []; packets = packet (cond is_echo 9 8) id body ∷ [] } ∷ past) ≡ record (negotiation_after limits ms is_lcp past) { next_id = next_of (negotiation_after limits ms is_lcp past).next_id }
numbered_back limits ms is_lcp now true id body past = same_negotiation _ _ refl refl refl (sym (next_taken (taken_in past))) refl refl refl refl (timer_stays limits ms now (packet 9 id body ∷ []) past)
numbered_back limits ms is_lcp now false id body past = same_negotiation _ _ refl refl refl (sym (next_taken (taken_in past))) refl refl refl refl (timer_stays limits ms now (packet 8 id body ∷ []) past)

-- Opened is entered and left by the acts of the event, if there is one.
same_state : (b : Bool) → [] ≡ layer_change b b
same_state true = refl
same_state false = refl

pub opens_back : (event : Option FsmEvent) (a : Automaton) → layer_acts (acts_on a event) ≡ layer_change (a.state == 9) ((moved_by event a).state == 9)
opens_back None a = same_state (a.state == 9)
opens_back (Some event) a = opens_by_acts a event
