-- What LCP's answers lead to: what each piece adds.
use Rattle.std.proofs.Common.{◌≡◌, ℕ, Bool, true, false, Option, None, Some, List, refl, ap, sym, ◌∙◌, subst, arith}
use Rattle.std.specs.Prelude.{◌==◌}
use Rattle.std.proofs.lemmas.Bool.{false≢true}
use Rattle.ppp_fsm.specs.Moving.{is_shut}
use Rattle.ppp_control.specs.Rules.{Call, hears, rejects}
use Rattle.ppp_lcp.specs.declared.out.LcpOut.{LcpOut}
use Rattle.ppp_packet.specs.declared.packet.Packet.{Packet}
use Rattle.ppp_link_rules.specs.declared.cause.Cause.{Cause}
use Rattle.ppp_link_rules.specs.Ending.{caused, closed_if, first_caused_by, is_first, lcp_closed, lcp_left, with_call}
use Rattle.ppp_link_rules.specs.LcpAnswer.{lcp_answer}
use Rattle.ppp_link_rules.specs.LcpCalls.{answered, called_part, cause_of, followed, followed_by, lcp_called, lcp_entered, lcp_heard, open_marked, protocol_rejected}
use Rattle.ppp_link_rules.specs.LinkState.{LcpPart, LinkState, is_busy, is_open, lcp_state, state_in}
use Rattle.ppp_link_rules.specs.Marks.{lcp_open_in}
use Rattle.ppp_link_rules.specs.Sending.{packets_sent}
use Rattle.ppp_link_facts.proofs.AuthRules.{begun_rule}
use Rattle.ppp_link_facts.proofs.EndRules.{caused_adds, caused_opens, caused_silent, caused_sits, closed_adds, closed_opens, closed_shut, closed_sits, left_adds, left_busy, left_opens, left_sits, left_state, lined, moved, packets_same}
use Rattle.ppp_link_facts.proofs.LcpFacts.{is_opening, shut_not_open, stays_shut, with_answered}
use Rattle.ppp_link_facts.proofs.Sight.{Adds, Idle, Loud, OpensNow, Rule, Sight, SitsAt, SitsNow, adds_more, adds_none, adds_then, busy_in, loud_of, rule_more, rule_none, rule_of, rule_open, sight, sits_any, sits_open, then}

-- LCP ENTERS OPENED

open_adds : (s : LinkState) → Adds 1 (sight s) (sight (open_marked s))
open_adds s = record {
  limit = refl;
  few = omega arith;
  longer = omega arith;
  since = omega arith;
  doing = refl;
  told = refl;
  stopped = refl;
  ends = refl;
  starts = omega arith;
  one = λ e. e;
  caused = λ e. e;
  talks = λ e. e;
  lines = refl;
  dial = refl;
  reading = refl;
  writing = refl;
  job = refl;
  time = refl;
  config = refl;
  wish = refl;
}

entered_rule : (s : LinkState) → is_open s ≡ true → Rule 8 (sight s) (sight (lcp_entered s))
unfolding lcp_entered
entered_rule s is = then {k = 1} {y = sight (open_marked s)} (rule_open (open_adds s) is is refl (λ h. sym is)) (begun_rule (open_marked s) is)

entered_opens : (s : LinkState) → is_open s ≡ true → OpensNow (sight (lcp_entered s))
unfolding lcp_entered
entered_opens s is = (begun_rule (open_marked s) is).opens (sym is)

-- WHAT FOLLOWS, where LCP was in Opened or not, and is or isn't

-- what it adds, that there is in Opened alone what should be, and that what ends the session then shuts LCP
record Follows (was : Bool) (x y : Sight) : Type 0 where
  pub adds : Adds 8 x y
  pub sits : SitsAt was x → SitsNow y
  pub ends : busy_in x ≡ true → busy_in y ≡ false → (is_shut y.state ≡ true) × (y.talks ≡ false)
  pub opens : lcp_open_in x.past ≡ was → OpensNow y

followed_facts : (was is : Bool) (s : LinkState) → is_open s ≡ is → Follows was (sight s) (sight (followed_by was is s))
followed_facts false false s e = record {
  adds = adds_more (omega arith) (adds_none (sight s));
  sits = λ h. sits_any (is_open s) h;
  ends = λ goes over. absurd (false≢true (sym over ∙ goes));
  opens = λ h. h ∙ sym e;
}
followed_facts false true s e = record {
  adds = (entered_rule s e).adds;
  sits = λ h. (entered_rule s e).sits (sits_open (is_open s) e);
  ends = λ goes over. (entered_rule s e).ends (sits_open (is_open s) e) goes over;
  opens = λ h. entered_opens s e;
}
followed_facts true false s e = record {
  adds = adds_more (omega arith) (left_adds s);
  sits = λ h. sits_any (is_open (lcp_left s)) (left_sits s);
  ends = λ goes over. absurd (false≢true (sym over ∙ left_busy s ∙ goes));
  opens = λ h. left_opens s ∙ sym e ∙ ap (λ (n : ℕ). n == 9) (sym (left_state s));
}
followed_facts true true s e = record {
  adds = adds_more (omega arith) (adds_none (sight s));
  sits = λ h. sits_open (is_open s) e;
  ends = λ goes over. absurd (false≢true (sym over ∙ goes));
  opens = λ h. h ∙ sym e;
}

-- AN ANSWER

-- without a cause that would be the first
abbrev only_followed : Bool → LcpOut → LinkState → LinkState
only_followed was out s = followed was (packets_sent out.packets s)

answered_none : (was : Bool) (c : Option Cause) (out : LcpOut) (s : LinkState) → is_first c s ≡ false → answered was c out s ≡ only_followed was out s
unfolding answered
answered_none was None out s e = refl
answered_none was (Some c) out s e =
    ap (λ (b : Bool). closed_if b (followed was (packets_sent out.packets (first_caused_by (Some c) b s)))) e

-- with one
abbrev ended_first : Bool → Cause → LcpOut → LinkState → LinkState
ended_first was c out s = lcp_closed (followed was (packets_sent out.packets (caused c s)))

answered_some : (was : Bool) (c : Cause) (out : LcpOut) (s : LinkState) → is_busy s ≡ true → answered was (Some c) out s ≡ ended_first was c out s
unfolding answered
answered_some was c out s e = ap (λ (b : Bool). closed_if b (followed was (packets_sent out.packets (first_caused_by (Some c) b s)))) e

-- the state before LCP's call, and behind it
record Called (was : Bool) (x : Sight) (s : LinkState) : Type 0 where
  pub is : sight s ≡ record x { state = lcp_state s }
  pub before : was ≡ (x.state == 9)

called_sits : {x : Sight} (s : LinkState) (opened : Bool) → sight s ≡ record x { state = lcp_state s } → SitsAt opened x → SitsAt opened (sight s)
called_sits {x = x} s opened e h = subst (λ (y : Sight). SitsAt opened y) (sym e) (record { phase = h.phase; stay = h.stay; auth = h.auth })

called_busy : (x : Sight) (s : LinkState) → sight s ≡ record x { state = lcp_state s } → busy_in (sight s) ≡ busy_in x
called_busy x s e = ap busy_in e

called_adds : (x : Sight) (s : LinkState) → sight s ≡ record x { state = lcp_state s } → Adds 0 x (sight s)
called_adds x s e = subst (λ (y : Sight). Adds 0 x y) (sym e) (moved (lcp_state s))

packets_adds : (out : LcpOut) (s : LinkState) → Adds 0 (sight s) (sight (packets_sent out.packets s))
packets_adds out s = subst (λ (y : Sight). Adds 0 (sight s) y) (sym (packets_same out.packets s)) (adds_none (sight s))

quiet_followed : (was : Bool) (x : Sight) (s : LinkState) → was ≡ false → is_open s ≡ false → Idle x → sight s ≡ record x { state = lcp_state s } → is_shut (lcp_state s) ≡ true
    → ((sight (followed was s)).past ≡ x.past) × Idle (sight (followed was s))
quiet_followed was x s w o i e shut =
    let same : followed was s ≡ s = ap (λ (b : Bool). followed_by b (is_open s) s) w ∙ ap (λ (b : Bool). followed_by false b s) o in
    subst (λ (t : LinkState). ((sight t).past ≡ x.past) × Idle (sight t)) (sym same)
    (ap (λ (y : Sight). y.past) e, subst (λ (y : Sight). Idle y) (sym e) (record { over = i.over; shut = shut; phase = i.phase; stay = i.stay; auth = i.auth; silent = i.silent }))

-- the packets are sent: the state is still the one behind the call
sent_called : (x : Sight) (out : LcpOut) (s : LinkState) → sight s ≡ record x { state = lcp_state s }
    → sight (packets_sent out.packets s) ≡ record x { state = lcp_state (packets_sent out.packets s) }
sent_called x out s e =
    let same : sight (packets_sent out.packets s) ≡ sight s = packets_same out.packets s in
    same ∙ e ∙ ap (λ (n : ℕ). record x { state = n }) (sym (ap (λ (y : Sight). y.state) same))

followed_loud : (was : Bool) (x : Sight) (out : LcpOut) (s : LinkState) → Called was x s → Loud 13 x (sight (only_followed was out s))
followed_loud was x out s k =
    let b : LinkState = packets_sent out.packets s in
    let is : sight b ≡ record x { state = lcp_state b } = sent_called x out s k.is in
    let f : Follows was (sight b) (sight (followed was b)) = followed_facts was (is_open b) b refl in
    record {
      adds = adds_more (omega arith) (adds_then {k = 0} (called_adds x b is) f.adds);
      sits = λ h. f.sits (called_sits b was is (subst (λ (w : Bool). SitsAt w x) (sym k.before) h));
      ends = λ h goes over. f.ends (called_busy x b is ∙ goes) over;
      opens = λ h. f.opens (ap (λ (y : Sight). lcp_open_in y.past) is ∙ h ∙ sym k.before);
    }

followed_quiet : (was : Bool) (x : Sight) (out : LcpOut) (s : LinkState) → Called was x s → is_shut (lcp_state s) ≡ true → Idle x
    → ((sight (only_followed was out s)).past ≡ x.past) × Idle (sight (only_followed was out s))
followed_quiet was x out s k h i =
    let b : LinkState = packets_sent out.packets s in
    let is : sight b ≡ record x { state = lcp_state b } = sent_called x out s k.is in
    let shut : is_shut (lcp_state b) ≡ true = ap (λ (y : Sight). is_shut y.state) (packets_same out.packets s) ∙ h in
    quiet_followed was x b (k.before ∙ shut_not_open x.state i.shut) (shut_not_open (lcp_state b) shut) i is shut

ended_loud : (was : Bool) (x : Sight) (c : Cause) (out : LcpOut) (s : LinkState) → Called was x s → Loud 13 x (sight (ended_first was c out s))
ended_loud was x c out s k =
    let a : LinkState = caused c s in
    let b : LinkState = packets_sent out.packets a in
    let d : LinkState = followed was b in
    let same : sight b ≡ sight a = packets_same out.packets a in
    let f : Follows was (sight b) (sight d) = followed_facts was (is_open b) b refl in
    let to_b : Adds 1 x (sight b) = adds_then {k = 1} (adds_then {k = 0} (called_adds x s k.is) (caused_adds c s)) (packets_adds out a) in
    let silent_b : (sight b).talks ≡ false = ap (λ (y : Sight). y.talks) same ∙ caused_silent c s in
    let silent_d : (sight d).talks ≡ false = f.adds.talks silent_b in
    let sits_b : SitsNow x → SitsAt was (sight b) =
    λ h. subst (λ (y : Sight). SitsAt was y) (sym same) (caused_sits was c s (called_sits s was k.is (subst (λ (w : Bool). SitsAt w x) (sym k.before) h))) in
    record {
      adds = adds_then {k = 9} (adds_then {k = 1} to_b f.adds) (closed_adds d);
      sits = λ h. sits_any (is_open (lcp_closed d)) (closed_sits d (f.sits (sits_b h)));
      ends = λ h goes over. (closed_shut d, (closed_adds d).talks silent_d);
      opens = λ h. closed_opens d (f.opens (ap (λ (y : Sight). lcp_open_in y.past) same ∙ caused_opens c s was (ap (λ (y : Sight). lcp_open_in y.past) k.is ∙ h ∙ sym k.before)));
    }

answered_loud : (was : Bool) (x : Sight) (c : Option Cause) (out : LcpOut) (s : LinkState) (busy : Bool) → is_busy s ≡ busy → Called was x s → Loud 13 x (sight (answered was c out s))
answered_loud was x None out s busy e k = subst (λ (t : LinkState). Loud 13 x (sight t)) (sym (answered_none was None out s refl)) (followed_loud was x out s k)
answered_loud was x (Some c) out s false e k = subst (λ (t : LinkState). Loud 13 x (sight t)) (sym (answered_none was (Some c) out s e)) (followed_loud was x out s k)
answered_loud was x (Some c) out s true e k = subst (λ (t : LinkState). Loud 13 x (sight t)) (sym (answered_some was c out s e)) (ended_loud was x c out s k)

first_none : (c : Option Cause) (s : LinkState) → is_busy s ≡ false → is_first c s ≡ false
first_none None s e = refl
first_none (Some c) s e = e

answered_quiet : (was : Bool) (x : Sight) (c : Option Cause) (out : LcpOut) (s : LinkState) → Called was x s → is_shut (lcp_state s) ≡ true → Idle x
    → ((sight (answered was c out s)).past ≡ x.past) × Idle (sight (answered was c out s))
answered_quiet was x c out s k h i =
    let over : is_busy s ≡ false = called_busy x s k.is ∙ i.over in
    subst (λ (t : LinkState). ((sight t).past ≡ x.past) × Idle (sight t)) (sym (answered_none was c out s (first_none c s over))) (followed_quiet was x out s k h i)

-- THE CALLS

called_at : (call : Call (Unit {0})) (now : ℕ) (part : LcpPart) (s : LinkState) → s.lcp ≡ Some part → Called (is_open s) (sight s) (with_call call now (lcp_answer s.wish part.words part.calls call now) part s)
called_at call now part s e = record { is = lined s part (with_answered s.wish call now part) e; before = refl }

part_loud : (call : Call (Unit {0})) (now : ℕ) (o : Option LcpPart) (s : LinkState) → s.lcp ≡ o → Loud 13 (sight s) (sight (called_part call now o s))
part_loud call now None s e = loud_of (rule_more (omega arith) (rule_none (sight s)))
part_loud call now (Some part) s e =
    let out : LcpOut = lcp_answer s.wish part.words part.calls call now in
    let t : LinkState = with_call call now out part s in
    answered_loud (is_open s) (sight s) (cause_of (lcp_state s) out) out t (is_busy t) refl (called_at call now part s e)

part_quiet : (call : Call (Unit {0})) (now : ℕ) (o : Option LcpPart) (s : LinkState) → s.lcp ≡ o → is_opening call ≡ false → Idle (sight s)
    → ((sight (called_part call now o s)).past ≡ (sight s).past) × Idle (sight (called_part call now o s))
part_quiet call now None s e never i = (refl, i)
part_quiet call now (Some part) s e never i =
    let out : LcpOut = lcp_answer s.wish part.words part.calls call now in
    let t : LinkState = with_call call now out part s in
    let shut : is_shut (state_in s.wish (Some part)) ≡ true = subst (λ (p : Option LcpPart). is_shut (state_in s.wish p) ≡ true) e i.shut in
    answered_quiet (is_open s) (sight s) (cause_of (lcp_state s) out) out t (called_at call now part s e) (stays_shut s.wish call now part never shut) i

part_rule : (call : Call (Unit {0})) (now : ℕ) (o : Option LcpPart) (s : LinkState) → s.lcp ≡ o → is_opening call ≡ false → Rule 13 (sight s) (sight (called_part call now o s))
part_rule call now o s e never = rule_of (part_loud call now o s e) (λ i. part_quiet call now o s e never i)

pub called_loud : (call : Call (Unit {0})) (s : LinkState) → Loud 13 (sight s) (sight (lcp_called call s))
unfolding lcp_called
called_loud call s = part_loud call s.time s.lcp s refl

pub called_rule : (call : Call (Unit {0})) (s : LinkState) → is_opening call ≡ false → Rule 13 (sight s) (sight (lcp_called call s))
unfolding lcp_called
called_rule call s never = part_rule call s.time s.lcp s refl never

pub rejected_rule : (protocol : ℕ) (information : List ℕ) (s : LinkState) → Rule 13 (sight s) (sight (protocol_rejected protocol information s))
unfolding protocol_rejected
rejected_rule protocol information s = part_rule (rejects protocol information) 0 s.lcp s refl refl

pub heard_rule : (packet : Option Packet) (s : LinkState) → Rule 13 (sight s) (sight (lcp_heard packet s))
heard_rule None s = rule_more (omega arith) (rule_none (sight s))
heard_rule (Some packet) s = called_rule (hears packet tt) s refl
