-- The phase of authentication, and the stay: what each piece adds.
use Rattle.std.proofs.Common.{◌≡◌, ℕ, ◌+◌, Bool, true, false, Option, None, Some, List, ◌∷◌, refl, ap, sym, ◌∙◌, subst, arith}
use Rattle.std.specs.Prelude.{◌==◌, ◌&&◌, is_none, is_some}
use Rattle.std.proofs.lemmas.Bool.{false≢true}
use Rattle.ppp_auth.specs.declared.out.PhaseOut.{PhaseOut}
use Rattle.ppp_auth.specs.declared.outcome.AuthNow.{AuthNow}
use Rattle.ppp_auth.specs.declared.outcome.AuthNow.TheVariants.{Going, Passed, PeerFailed, WeFailed}
use Rattle.ppp_auth.specs.Outcome.{outcome_in}
use Rattle.ppp_auth.specs.Phase.{told_at}
use Rattle.ppp_auth.specs.Setting.{PhaseAt, PhaseCall, starts, takes}
use Rattle.ppp_mark.specs.Marks.{auth_open_mark}
use Rattle.ppp_mark.specs.ScriptLog.{next_opening}
use Rattle.ppp_packet.specs.declared.agreed.Agreed.{Agreed}
use Rattle.ppp_packet.specs.declared.packet.Packet.{Packet}
use Rattle.ppp_link_rules.specs.Authentication.{asked_by, asked_for, asked_if, auth_opened, called_part, ended_by_outcome, join_of, join_tried, new_phase, opened_for, phase_begun, phase_begun_by, phase_called, phase_heard, phase_told, with_phase}
use Rattle.ppp_link_rules.specs.CauseStatus.{peer_failed, we_failed}
use Rattle.ppp_link_rules.specs.LinkState.{AuthPart, LinkState, agreed, control, has_passed, is_open, outcome_of}
use Rattle.ppp_link_rules.specs.Marks.{cause_in, doing_in, is_session, lcp_open_in}
use Rattle.ppp_link_rules.specs.Phase.{may_ask, phase_by}
use Rattle.ppp_link_rules.specs.Rings.{has_control}
use Rattle.ppp_link_rules.specs.Sending.{phase_sent}
use Rattle.ppp_link_rules.specs.UpValue.{JoinValue}
use Rattle.ppp_link_facts.proofs.EndRules.{due_adds, due_same, ended_rule, phase_same, with_past}
use Rattle.ppp_link_facts.proofs.Sight.{Adds, OpensNow, Rule, Sight, SitsNow, adds_more, adds_none, adds_then, busy_in, rule_more, rule_none, rule_open, rule_same, sight, then}

-- AUTHENTICATION OPENS, in LCP's Opened

mark_adds : (x : Sight) (time n : ℕ) → Adds 1 x (with_past (auth_open_mark time n ∷ x.past) x)
mark_adds x time n = record {
  limit = refl;
  few = omega arith;
  longer = omega arith;
  since = omega arith;
  doing = refl;
  told = refl;
  stopped = refl;
  ends = refl;
  starts = omega arith;
  one = λ e. e;
  caused = λ e. e;
  talks = λ e. e;
  lines = refl;
  dial = refl;
  reading = refl;
  writing = refl;
  job = refl;
  time = refl;
  config = refl;
  wish = refl;
}

opened_adds : (peer : List ℕ) (s : LinkState) → Adds 2 (sight s) (sight (auth_opened peer s))
opened_adds peer s =
    adds_then (mark_adds (sight s) s.time (next_opening s.log)) (due_adds (with_past (auth_open_mark s.time (next_opening s.log) ∷ s.log.past) (sight s)) s.time)

opened_busy : (peer : List ℕ) (s : LinkState) → busy_in (sight (auth_opened peer s)) ≡ busy_in (sight s)
opened_busy peer s =
    due_same (λ p. is_session (doing_in p) && is_none (cause_in p)) s.time (auth_open_mark s.time (next_opening s.log) ∷ s.log.past) (λ up n. refl)

opened_opens : (peer : List ℕ) (s : LinkState) → OpensNow (sight s) → OpensNow (sight (auth_opened peer s))
opened_opens peer s h = due_same lcp_open_in s.time (auth_open_mark s.time (next_opening s.log) ∷ s.log.past) (λ up n. refl) ∙ h

opened_for_opens : (peer : Option (List ℕ)) (s : LinkState) → OpensNow (sight s) → OpensNow (sight (opened_for peer s))
opened_for_opens None s h = h
opened_for_opens (Some peer) s h = opened_opens peer s h

opened_for_rule : (peer : Option (List ℕ)) (s : LinkState) → is_open s ≡ true → Rule 2 (sight s) (sight (opened_for peer s))
opened_for_rule None s is = rule_more (omega arith) (rule_none (sight s))
opened_for_rule (Some peer) s is = rule_open (opened_adds peer s) is is (opened_busy peer s) (opened_opens peer s)

opened_for_adds : (peer : Option (List ℕ)) (s : LinkState) → Adds 2 (sight s) (sight (opened_for peer s))
opened_for_adds None s = adds_more (omega arith) (adds_none (sight s))
opened_for_adds (Some peer) s = opened_adds peer s

-- WHO FAILED

outcome_rule : (now : AuthNow) (s : LinkState) → Rule 5 (sight s) (sight (ended_by_outcome now s))
outcome_rule Going s = rule_more (omega arith) (rule_none (sight s))
outcome_rule (Passed peer allow) s = rule_more (omega arith) (rule_none (sight s))
outcome_rule PeerFailed s = ended_rule peer_failed s
outcome_rule WeFailed s = ended_rule we_failed s

-- AN ANSWER OF THE PHASE

told_rule : (out : PhaseOut) (now : AuthNow) (s : LinkState) → is_open s ≡ true → Rule 7 (sight s) (sight (phase_told out now s))
told_rule out now s is =
    let a : LinkState = phase_sent out.packets s in
    let same : sight a ≡ sight s = phase_same out.packets s in
    let still : is_open a ≡ true = ap (λ (x : Sight). x.state == 9) same ∙ is in
    then {k = 2} (then {k = 0} (rule_same same) (opened_for_rule out.peer_passed a still)) (outcome_rule now (opened_for out.peer_passed a))

told_adds : (out : PhaseOut) (now : AuthNow) (s : LinkState) → Adds 7 (sight s) (sight (phase_told out now s))
told_adds out now s =
    let a : LinkState = phase_sent out.packets s in
    let sent : Adds 0 (sight s) (sight a) = subst (λ (y : Sight). Adds 0 (sight s) y) (sym (phase_same out.packets s)) (adds_none (sight s)) in
    adds_then {k = 2} (adds_then {k = 0} sent (opened_for_adds out.peer_passed a)) (outcome_rule now (opened_for out.peer_passed a)).adds

told_opens : (out : PhaseOut) (now : AuthNow) (s : LinkState) → OpensNow (sight s) → OpensNow (sight (phase_told out now s))
told_opens out now s h =
    let a : LinkState = phase_sent out.packets s in
    (outcome_rule now (opened_for out.peer_passed a)).opens (opened_for_opens out.peer_passed a (subst OpensNow (sym (phase_same out.packets s)) h))

-- A rule of what has a phase of authentication: where that is there in Opened alone, LCP is in Opened.
true_or : (b : Bool) → (b ≡ false → true ≡ false) → b ≡ true
true_or true h = refl
true_or false h = absurd (false≢true (sym (h refl)))

rule_proving : {k : ℕ} {x y : Sight} → x.proves ≡ true → Adds k x y → (OpensNow x → OpensNow y) → ((x.state == 9) ≡ true → Rule k x y) → Rule k x y
rule_proving {x = x} e a o r =
    let is : SitsNow x → (x.state == 9) ≡ true = λ h. true_or (x.state == 9) (λ f. sym e ∙ h.phase f) in
    record {
      adds = a;
      sits = λ h. (r (is h)).sits h;
      ends = λ h goes over. (r (is h)).ends h goes over;
      quiet = λ i. absurd (false≢true (sym i.phase ∙ e));
      opens = o;
    }

proving : (s : LinkState) (part next : AuthPart) → s.auth ≡ Some part → sight (record s { auth = Some next }) ≡ sight s
proving s part next e = ap (λ (b : Bool). record (sight s) { proves = b }) (sym (ap is_some e))

part_rule : (call : PhaseCall) (o : Option AuthPart) (s : LinkState) → s.auth ≡ o → Rule 7 (sight s) (sight (called_part call o s))
part_rule call None s e = rule_more (omega arith) (rule_none (sight s))
part_rule call (Some part) s e =
    let c : PhaseAt = record { now = s.time; call = call } in
    let t : LinkState = with_phase c part s in
    let out : PhaseOut = told_at part.setting c part.calls in
    let now : AuthNow = outcome_in part.setting (c ∷ part.calls) in
    let same : sight t ≡ sight s = proving s part (record part { calls = c ∷ part.calls }) e in
    rule_proving (ap is_some e) (subst (λ (x : Sight). Adds 7 x (sight (phase_told out now t))) same (told_adds out now t))
    (λ h. told_opens out now t (subst OpensNow (sym same) h))
    (λ is. subst (λ (x : Sight). Rule 7 x (sight (phase_told out now t))) same (told_rule out now t (ap (λ (x : Sight). x.state == 9) same ∙ is)))

pub phase_rule : (call : PhaseCall) (s : LinkState) → Rule 7 (sight s) (sight (phase_called call s))
unfolding phase_called
phase_rule call s = part_rule call s.auth s refl

pub phase_heard_rule : (protocol : ℕ) (packet : Option Packet) (s : LinkState) → Rule 7 (sight s) (sight (phase_heard protocol packet s))
phase_heard_rule protocol None s = rule_more (omega arith) (rule_none (sight s))
phase_heard_rule protocol (Some packet) s = phase_rule (takes protocol packet s.secrets) s

-- THE PHASE BEGINS, in LCP's Opened

new_adds : (terms : Agreed) (s : LinkState) → Adds 0 (sight s) (sight (new_phase terms s))
new_adds terms s = record {
  limit = refl;
  few = omega arith;
  longer = omega arith;
  since = refl;
  doing = refl;
  told = refl;
  stopped = refl;
  ends = refl;
  starts = omega arith;
  one = λ e. e;
  caused = λ e. e;
  talks = λ e. e;
  lines = refl;
  dial = refl;
  reading = refl;
  writing = refl;
  job = refl;
  time = refl;
  config = refl;
  wish = refl;
}

begun_by : (o : Option Agreed) (s : LinkState) → is_open s ≡ true → Rule 7 (sight s) (sight (phase_begun_by o s))
begun_by None s is = rule_more (omega arith) (rule_none (sight s))
begun_by (Some terms) s is = then {k = 0} {y = sight (new_phase terms s)} (rule_open (new_adds terms s) is is refl (λ h. h)) (phase_rule (starts s.secrets) (new_phase terms s))

pub begun_rule : (s : LinkState) → is_open s ≡ true → Rule 7 (sight s) (sight (phase_begun s))
unfolding phase_begun
begun_rule s is = begun_by (agreed s) s is

-- THE STAY

asked_adds : (stay : ℕ) (join : JoinValue) (s : LinkState) → Adds 1 (sight s) (sight (asked_for stay join s))
asked_adds stay join s = record {
  limit = refl;
  few = omega arith;
  longer = omega arith;
  since = omega arith;
  doing = refl;
  told = refl;
  stopped = refl;
  ends = refl;
  starts = omega arith;
  one = λ e. e;
  caused = λ e. e;
  talks = λ e. e;
  lines = refl;
  dial = refl;
  reading = refl;
  writing = refl;
  job = refl;
  time = refl;
  config = refl;
  wish = refl;
}

asked_by_rule : (now : AuthNow) (o : Option Agreed) (s : LinkState) → is_open s ≡ true → Rule 1 (sight s) (sight (asked_by now o s))
asked_by_rule Going o s is = rule_more (omega arith) (rule_none (sight s))
asked_by_rule PeerFailed o s is = rule_more (omega arith) (rule_none (sight s))
asked_by_rule WeFailed o s is = rule_more (omega arith) (rule_none (sight s))
asked_by_rule (Passed peer allow) None s is = rule_more (omega arith) (rule_none (sight s))
asked_by_rule (Passed peer allow) (Some terms) s is = rule_open (asked_adds ((control s).stays + 1) (join_of ((control s).stays + 1) terms peer allow) s) is is refl (λ h. h)

asked_if_rule : (b : Bool) (s : LinkState) → is_open s ≡ true → Rule 1 (sight s) (sight (asked_if b s))
asked_if_rule true s is = asked_by_rule (outcome_of s.auth) (agreed s) s is
asked_if_rule false s is = rule_more (omega arith) (rule_none (sight s))

asked_where : (opened passed waits : Bool) (stay : Option ℕ) (s : LinkState) → is_open s ≡ opened → Rule 1 (sight s) (sight (asked_if (may_ask (phase_by opened passed) stay waits) s))
asked_where true passed waits stay s e = asked_if_rule (may_ask (phase_by true passed) stay waits) s e
asked_where false passed waits stay s e = rule_more (omega arith) (rule_none (sight s))

pub join_rule : (s : LinkState) → Rule 1 (sight s) (sight (join_tried s))
unfolding join_tried
join_rule s = asked_where (is_open s) (has_passed (outcome_of s.auth)) (has_control s.up.waiting) (control s).stay s refl
