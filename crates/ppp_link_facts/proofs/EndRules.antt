-- How a session ends: what each piece adds, and that behind it LCP is shut.
use Rattle.std.proofs.Common.{◌≡◌, ℕ, Bool, true, false, Option, None, Some, List, [], ◌∷◌, ◌++◌, refl, ap, sym, ◌∙◌, subst, arith}
use Rattle.std.specs.Prelude.{◌==◌, ◌&&◌, is_none, is_some, if◌then◌else◌}
use Rattle.std.proofs.lemmas.Bool.{false≢true}
use Rattle.std.proofs.lemmas.Bool.Decides.{nat_tests}
use Rattle.ppp_base.specs.declared.hook_target.HookTarget.TheVariants.{Link}
use Rattle.ppp_base.specs.declared.protocol.TheConstants.{LCP}
use Rattle.ppp_auth.specs.declared.out.PhasePacket.{PhasePacket}
use Rattle.ppp_control.specs.Rules.{by_itself, closes}
use Rattle.ppp_fsm.specs.Moving.{is_shut}
use Rattle.ppp_hooks.specs.HookPast.{ends_in, last_in, open_in, starts_in}
use Rattle.ppp_hooks.specs.HookRule.{due_for, start_marks}
use Rattle.ppp_lcp.specs.declared.out.LcpOut.{LcpOut}
use Rattle.ppp_mark.specs.declared.mark.Mark.{Mark}
use Rattle.ppp_mark.specs.Marks.{auth_closed_mark, started_mark}
use Rattle.ppp_mark.specs.ScriptLog.{log_closed_at}
use Rattle.ppp_mark.specs.Scripts.{due_marks, marks_at, said_in}
use Rattle.ppp_packet.specs.declared.packet.Packet.{Packet}
use Rattle.ppp_packet.specs.PacketOf.{laid_packet}
use Rattle.ppp_link_rules.specs.declared.cause.Cause.{Cause}
use Rattle.ppp_link_rules.specs.Ending.{auth_closed, caused, closed_marked, closed_part, ended_by, ended_if, given_up, lcp_closed, lcp_left, left_by, left_if, with_call}
use Rattle.ppp_link_rules.specs.LcpAnswer.{lcp_answer}
use Rattle.ppp_link_rules.specs.LinkState.{LcpPart, LinkState, Listener, Nobody, Chatting, Framing, is_busy, is_open, lcp_state}
use Rattle.ppp_link_rules.specs.Marks.{cause_in, doing_in, is_session, lcp_open_in, stay_in}
use Rattle.ppp_link_rules.specs.Sending.{frame_sent, packets_sent, phase_sent}
use Rattle.ppp_link_facts.specs.Budget.{is_talking}
use Rattle.ppp_link_facts.proofs.LcpFacts.{close_shuts, shut_not_open, with_answered}
use Rattle.ppp_link_facts.proofs.Sight.{Adds, Idle, OpensNow, Rule, Sight, SitsAt, SitsNow, adds_more, adds_none, adds_then, busy_in, idle_by, rule_more, rule_none, sight, sits_any, still_ended}

-- SENDING changes nothing of this.

pub frame_same : (protocol : ℕ) (information : List ℕ) (s : LinkState) → sight (frame_sent protocol information s) ≡ sight s
unfolding frame_sent
frame_same protocol information s = refl

pub packets_same : (packets : List Packet) (s : LinkState) → sight (packets_sent packets s) ≡ sight s
packets_same [] s = refl
packets_same (p ∷ packets) s = packets_same packets (frame_sent LCP (laid_packet p) s) ∙ frame_same LCP (laid_packet p) s

pub phase_same : (packets : List PhasePacket) (s : LinkState) → sight (phase_sent packets s) ≡ sight s
phase_same [] s = refl
phase_same (p ∷ packets) s = phase_same packets (frame_sent p.protocol (laid_packet p.packet) s) ∙ frame_same p.protocol (laid_packet p.packet) s

-- A SCRIPT THAT IS DUE

abbrev pub with_past : List Mark → Sight → Sight
with_past past x = record x { past = past }

abbrev pub due_by : Bool → Option (Bool × ℕ) → ℕ → List Mark
due_by b due time = marks_at time (if b then start_marks due else [])

due_adds_by : (x : Sight) (time : ℕ) (b : Bool) (due : Option (Bool × ℕ)) → (b ≡ true → ends_in (said_in x.past) ≡ starts_in (said_in x.past)) → Adds 1 x (with_past (due_by b due time ++ x.past) x)
due_adds_by x time false due h = adds_more (omega arith) (adds_none x)
due_adds_by x time true None h = adds_more (omega arith) (adds_none x)
due_adds_by x time true (Some start) h = record {
  limit = refl;
  few = omega arith;
  longer = omega arith;
  since = omega arith;
  doing = refl;
  told = refl;
  stopped = refl;
  ends = refl;
  starts = omega arith;
  one = λ e. omega (arith, h refl);
  caused = λ e. e;
  talks = λ e. e;
  lines = refl;
  dial = refl;
  reading = refl;
  writing = refl;
  job = refl;
  time = refl;
  config = refl;
  wish = refl;
}

pub eq_of : (a b : ℕ) → (a == b) ≡ true → a ≡ b
eq_of a b e = grind (arith, nat_tests, e)

pub due_adds : (x : Sight) (time : ℕ) → Adds 1 x (with_past (due_marks time x.past ++ x.past) x)
due_adds x time =
    due_adds_by x time (ends_in (said_in x.past) == starts_in (said_in x.past)) (due_for (last_in (said_in x.past)) (open_in (said_in x.past)))
    (λ e. eq_of (ends_in (said_in x.past)) (starts_in (said_in x.past)) e)

-- the same of the start that is due: it tells nothing of the cause, the stay, or what is open
due_same_by : {A : Type 0} (f : List Mark → A) (time : ℕ) (past : List Mark) (b : Bool) (due : Option (Bool × ℕ))
    → ((up : Bool) (n : ℕ) → f (started_mark time up n ∷ past) ≡ f past) → f (due_by b due time ++ past) ≡ f past
due_same_by f time past false due h = refl
due_same_by f time past true None h = refl
due_same_by f time past true (Some start) h = h start.0 start.1

pub due_same : {A : Type 0} (f : List Mark → A) (time : ℕ) (past : List Mark) → ((up : Bool) (n : ℕ) → f (started_mark time up n ∷ past) ≡ f past) → f (due_marks time past ++ past) ≡ f past
due_same f time past h = due_same_by f time past (ends_in (said_in past) == starts_in (said_in past)) (due_for (last_in (said_in past)) (open_in (said_in past))) h

-- LCP LEAVES OPENED

mark_adds : (x : Sight) (time kind : ℕ) → Adds 1 x (with_past (auth_closed_mark time kind ∷ x.past) x)
mark_adds x time kind = record {
  limit = refl;
  few = omega arith;
  longer = omega arith;
  since = omega arith;
  doing = refl;
  told = refl;
  stopped = refl;
  ends = refl;
  starts = omega arith;
  one = λ e. e;
  caused = λ e. e;
  talks = λ e. e;
  lines = refl;
  dial = refl;
  reading = refl;
  writing = refl;
  job = refl;
  time = refl;
  config = refl;
  wish = refl;
}

closed_at_adds : (x : Sight) (id time limit : ℕ) (o : Option ℕ) → Adds 2 x (with_past (log_closed_at (Link id) time o (record { past = x.past; limit = limit })).past x)
closed_at_adds x id time limit None = adds_more (omega arith) (adds_none x)
closed_at_adds x id time limit (Some n) = adds_then (mark_adds x time n) (due_adds (with_past (auth_closed_mark time n ∷ x.past) x) time)

closed_at_same : {A : Type 0} (f : List Mark → A) (id time limit : ℕ) (past : List Mark) (o : Option ℕ)
    → ((up : Bool) (n : ℕ) (p : List Mark) → f (started_mark time up n ∷ p) ≡ f p) → ((n : ℕ) → f (auth_closed_mark time n ∷ past) ≡ f past)
    → f (log_closed_at (Link id) time o (record { past = past; limit = limit })).past ≡ f past
closed_at_same f id time limit past None h k = refl
closed_at_same f id time limit past (Some n) h k = due_same f time (auth_closed_mark time n ∷ past) (λ up m. h up m (auth_closed_mark time n ∷ past)) ∙ k n

closed_at_open : (id time limit : ℕ) (past : List Mark) (o : Option ℕ) → open_in (said_in past) ≡ o → open_in (said_in (log_closed_at (Link id) time o (record { past = past; limit = limit })).past) ≡ None
closed_at_open id time limit past None e = e
closed_at_open id time limit past (Some n) e = due_same (λ p. open_in (said_in p)) time (auth_closed_mark time n ∷ past) (λ up m. refl)

closed_at_limit : (id time limit : ℕ) (past : List Mark) (o : Option ℕ) → (log_closed_at (Link id) time o (record { past = past; limit = limit })).limit ≡ limit
closed_at_limit id time limit past None = refl
closed_at_limit id time limit past (Some n) = refl

marked_adds : (s : LinkState) → Adds 1 (sight s) (sight (closed_marked s))
marked_adds s = record {
  limit = refl;
  few = omega arith;
  longer = omega arith;
  since = omega arith;
  doing = refl;
  told = refl;
  stopped = refl;
  ends = refl;
  starts = omega arith;
  one = λ e. e;
  caused = λ e. e;
  talks = λ e. e;
  lines = refl;
  dial = refl;
  reading = refl;
  writing = refl;
  job = refl;
  time = refl;
  config = refl;
  wish = refl;
}

auth_adds : (s : LinkState) → Adds 2 (sight s) (sight (auth_closed s))
auth_adds s =
    let a : Adds 2 (sight s) (with_past (auth_closed s).log.past (sight s)) = closed_at_adds (sight s) s.id s.time s.log.limit (open_in (said_in s.log.past)) in
    record {
      limit = closed_at_limit s.id s.time s.log.limit s.log.past (open_in (said_in s.log.past));
      few = a.few;
      longer = a.longer;
      since = a.since;
      doing = a.doing;
      told = a.told;
      stopped = a.stopped;
      ends = a.ends;
      starts = a.starts;
      one = a.one;
      caused = a.caused;
      talks = λ e. e;
      lines = refl;
      dial = refl;
      reading = refl;
      writing = refl;
      job = refl;
      time = refl;
      config = refl;
      wish = refl;
    }

auth_cause : (s : LinkState) → cause_in (auth_closed s).log.past ≡ cause_in s.log.past
auth_cause s = closed_at_same cause_in s.id s.time s.log.limit s.log.past (open_in (said_in s.log.past)) (λ up n p. refl) (λ n. refl)

auth_open : (s : LinkState) → open_in (said_in (auth_closed s).log.past) ≡ None
auth_open s = closed_at_open s.id s.time s.log.limit s.log.past (open_in (said_in s.log.past)) refl

stay_adds_by : (o : Option ℕ) (s : LinkState) → Adds 1 (sight s) (sight (left_by o s))
stay_adds_by None s = adds_more (omega arith) (adds_none (sight s))
stay_adds_by (Some stay) s = record {
  limit = refl;
  few = omega arith;
  longer = omega arith;
  since = omega arith;
  doing = refl;
  told = refl;
  stopped = refl;
  ends = refl;
  starts = omega arith;
  one = λ e. e;
  caused = λ e. e;
  talks = λ e. e;
  lines = refl;
  dial = refl;
  reading = refl;
  writing = refl;
  job = refl;
  time = refl;
  config = refl;
  wish = refl;
}

-- what leaving a stay leaves
record Left (s t : LinkState) : Type 0 where
  pub stay : is_some (stay_in t.log.past) ≡ false
  pub auth : open_in (said_in t.log.past) ≡ open_in (said_in s.log.past)
  pub cause : cause_in t.log.past ≡ cause_in s.log.past
  pub phase : is_some t.auth ≡ is_some s.auth
  pub state : lcp_state t ≡ lcp_state s
  pub opens : lcp_open_in t.log.past ≡ lcp_open_in s.log.past

left_facts : (o : Option ℕ) (s : LinkState) → stay_in s.log.past ≡ o → Left s (left_by o s)
left_facts None s e = record { stay = ap is_some e; auth = refl; cause = refl; phase = refl; state = refl; opens = refl }
left_facts (Some stay) s e = record { stay = refl; auth = refl; cause = refl; phase = refl; state = refl; opens = refl }

pub left_adds : (s : LinkState) → Adds 4 (sight s) (sight (lcp_left s))
unfolding lcp_left
left_adds s = adds_then {k = 3} (adds_then (marked_adds s) (auth_adds (closed_marked s))) (stay_adds_by (stay_in (auth_closed (closed_marked s)).log.past) (auth_closed (closed_marked s)))

pub left_sits : (s : LinkState) → SitsAt false (sight (lcp_left s))
unfolding lcp_left
left_sits s =
    let b : LinkState = auth_closed (closed_marked s) in
    let l : Left b (left_by (stay_in b.log.past) b) = left_facts (stay_in b.log.past) b refl in
    record { phase = λ e. l.phase; stay = λ e. l.stay; auth = λ e. ap is_some (l.auth ∙ auth_open (closed_marked s)) }

pub left_state : (s : LinkState) → lcp_state (lcp_left s) ≡ lcp_state s
unfolding lcp_left
left_state s = (left_facts (stay_in (auth_closed (closed_marked s)).log.past) (auth_closed (closed_marked s)) refl).state

pub left_cause : (s : LinkState) → cause_in (lcp_left s).log.past ≡ cause_in s.log.past
unfolding lcp_left
left_cause s = (left_facts (stay_in (auth_closed (closed_marked s)).log.past) (auth_closed (closed_marked s)) refl).cause ∙ auth_cause (closed_marked s)

auth_opens : (s : LinkState) → lcp_open_in (auth_closed s).log.past ≡ lcp_open_in s.log.past
auth_opens s = closed_at_same lcp_open_in s.id s.time s.log.limit s.log.past (open_in (said_in s.log.past)) (λ up n p. refl) (λ n. refl)

pub left_opens : (s : LinkState) → lcp_open_in (lcp_left s).log.past ≡ false
unfolding lcp_left
left_opens s = (left_facts (stay_in (auth_closed (closed_marked s)).log.past) (auth_closed (closed_marked s)) refl).opens ∙ auth_opens (closed_marked s)

pub left_busy : (s : LinkState) → busy_in (sight (lcp_left s)) ≡ busy_in (sight s)
left_busy s = ap (λ d. is_session d && is_none (cause_in (lcp_left s).log.past)) (left_adds s).doing ∙ ap (λ c. is_session (doing_in s.log.past) && is_none c) (left_cause s)

-- LCP IS CLOSED

pub moved : {x : Sight} (n : ℕ) → Adds 0 x (record x { state = n })
moved n = record {
  limit = refl;
  few = omega arith;
  longer = omega arith;
  since = refl;
  doing = refl;
  told = refl;
  stopped = refl;
  ends = refl;
  starts = omega arith;
  one = λ e. e;
  caused = λ e. e;
  talks = λ e. e;
  lines = refl;
  dial = refl;
  reading = refl;
  writing = refl;
  job = refl;
  time = refl;
  config = refl;
  wish = refl;
}

left_if_adds : (was : Bool) (s : LinkState) → Adds 4 (sight s) (sight (left_if was s))
left_if_adds true s = left_adds s
left_if_adds false s = adds_more (omega arith) (adds_none (sight s))

left_if_state : (was : Bool) (s : LinkState) → lcp_state (left_if was s) ≡ lcp_state s
left_if_state true s = left_state s
left_if_state false s = refl

left_if_sits : (was : Bool) (s : LinkState) → SitsAt was (sight s) → SitsAt false (sight (left_if was s))
left_if_sits true s h = left_sits s
left_if_sits false s h = h

left_if_opens : (was : Bool) (s : LinkState) → lcp_open_in s.log.past ≡ was → lcp_open_in (left_if was s).log.past ≡ false
left_if_opens true s h = left_opens s
left_if_opens false s h = h

-- the sight of a state whose LCP part has answered one more call
pub lined : (s : LinkState) (part next : LcpPart) → s.lcp ≡ Some part → sight (record s { lcp = Some next }) ≡ record (sight s) { state = lcp_state (record s { lcp = Some next }) }
lined s part next e = ap (λ (b : Bool). record (sight s) { state = lcp_state (record s { lcp = Some next }); lines = b }) (sym (ap is_some e))

abbrev closed_sent : LcpPart → LinkState → LinkState
closed_sent part s =
    let out : LcpOut = lcp_answer s.wish part.words part.calls (by_itself closes) s.time in
    packets_sent out.packets (with_call (by_itself closes) s.time out part s)

closed_sight : (part : LcpPart) (s : LinkState) → s.lcp ≡ Some part → sight (closed_sent part s) ≡ record (sight s) { state = lcp_state (closed_sent part s) }
closed_sight part s e =
    let out : LcpOut = lcp_answer s.wish part.words part.calls (by_itself closes) s.time in
    let t : LinkState = with_call (by_itself closes) s.time out part s in
    let same : sight (packets_sent out.packets t) ≡ sight t = packets_same out.packets t in
    let is : sight t ≡ record (sight s) { state = lcp_state t } = lined s part (with_answered s.wish (by_itself closes) s.time part) e in
    same ∙ is ∙ ap (λ (n : ℕ). record (sight s) { state = n }) (sym (ap (λ (x : Sight). x.state) same))

closed_state : (part : LcpPart) (s : LinkState) → is_shut (lcp_state (closed_sent part s)) ≡ true
closed_state part s =
    let out : LcpOut = lcp_answer s.wish part.words part.calls (by_itself closes) s.time in
    let t : LinkState = with_call (by_itself closes) s.time out part s in
    ap (λ (x : Sight). is_shut x.state) (packets_same out.packets t) ∙ close_shuts s.wish s.time part

closed_part_adds : (o : Option LcpPart) (s : LinkState) → s.lcp ≡ o → Adds 4 (sight s) (sight (closed_part o s))
closed_part_adds None s e = adds_more (omega arith) (adds_none (sight s))
closed_part_adds (Some part) s e =
    let t : LinkState = closed_sent part s in
    adds_then {k = 0} (subst (λ (y : Sight). Adds 0 (sight s) y) (sym (closed_sight part s e)) (moved (lcp_state t))) (left_if_adds (is_open s) t)

closed_part_shut : (o : Option LcpPart) (s : LinkState) → s.lcp ≡ o → is_shut (lcp_state (closed_part o s)) ≡ true
closed_part_shut None s e = rw e refl
closed_part_shut (Some part) s e = ap is_shut (left_if_state (is_open s) (closed_sent part s)) ∙ closed_state part s

closed_part_sits : (o : Option LcpPart) (s : LinkState) → s.lcp ≡ o → SitsNow (sight s) → SitsAt false (sight (closed_part o s))
closed_part_sits None s e h =
    let closed : is_open s ≡ false = rw e refl in
    record { phase = λ x. h.phase closed; stay = λ x. h.stay closed; auth = λ x. h.auth closed }
closed_part_sits (Some part) s e h =
    let t : LinkState = closed_sent part s in
    left_if_sits (is_open s) t (subst (λ (y : Sight). SitsAt (is_open s) y) (sym (closed_sight part s e)) (record { phase = h.phase; stay = h.stay; auth = h.auth }))

closed_part_opens : (o : Option LcpPart) (s : LinkState) → s.lcp ≡ o → OpensNow (sight s) → lcp_open_in (closed_part o s).log.past ≡ false
closed_part_opens None s e h = let closed : is_open s ≡ false = rw e refl in h ∙ closed
closed_part_opens (Some part) s e h =
    let t : LinkState = closed_sent part s in
    left_if_opens (is_open s) t (ap (λ (y : Sight). lcp_open_in y.past) (closed_sight part s e) ∙ h)

pub closed_adds : (s : LinkState) → Adds 4 (sight s) (sight (lcp_closed s))
unfolding lcp_closed
closed_adds s = closed_part_adds s.lcp s refl

pub closed_shut : (s : LinkState) → is_shut (lcp_state (lcp_closed s)) ≡ true
unfolding lcp_closed
closed_shut s = closed_part_shut s.lcp s refl

pub closed_sits : (s : LinkState) → SitsNow (sight s) → SitsAt false (sight (lcp_closed s))
unfolding lcp_closed
closed_sits s h = closed_part_sits s.lcp s refl h

closed_tells : (s : LinkState) → OpensNow (sight s) → lcp_open_in (lcp_closed s).log.past ≡ false
unfolding lcp_closed
closed_tells s h = closed_part_opens s.lcp s refl h

pub closed_opens : (s : LinkState) → OpensNow (sight s) → OpensNow (sight (lcp_closed s))
closed_opens s h = closed_tells s h ∙ sym (shut_not_open (lcp_state (lcp_closed s)) (closed_shut s))

-- THE FIRST CAUSE

not_talking : (l : Listener) → is_talking (given_up l) ≡ false
not_talking Nobody = refl
not_talking (Chatting calls) = refl
not_talking Framing = refl

given_talks : (l : Listener) → is_talking l ≡ false → is_talking (given_up l) ≡ false
given_talks l e = not_talking l

pub caused_adds : (c : Cause) (s : LinkState) → Adds 1 (sight s) (sight (caused c s))
unfolding caused
caused_adds c s = record {
  limit = refl;
  few = omega arith;
  longer = omega arith;
  since = omega arith;
  doing = refl;
  told = refl;
  stopped = refl;
  ends = refl;
  starts = omega arith;
  one = λ e. e;
  caused = λ e. refl;
  talks = λ e. not_talking s.listener;
  lines = refl;
  dial = refl;
  reading = refl;
  writing = refl;
  job = refl;
  time = refl;
  config = refl;
  wish = refl;
}

and_right : (a : Bool) → (a && false) ≡ false
and_right true = refl
and_right false = refl

pub caused_over : (c : Cause) (s : LinkState) → busy_in (sight (caused c s)) ≡ false
unfolding caused
caused_over c s = and_right (is_session (doing_in s.log.past))

pub caused_silent : (c : Cause) (s : LinkState) → is_talking (caused c s).listener ≡ false
unfolding caused
caused_silent c s = not_talking s.listener

pub caused_sits : (opened : Bool) (c : Cause) (s : LinkState) → SitsAt opened (sight s) → SitsAt opened (sight (caused c s))
unfolding caused
caused_sits opened c s h = record { phase = h.phase; stay = h.stay; auth = h.auth }

pub caused_state : (c : Cause) (s : LinkState) → lcp_state (caused c s) ≡ lcp_state s
unfolding caused
caused_state c s = refl

pub caused_opens : (c : Cause) (s : LinkState) (b : Bool) → lcp_open_in s.log.past ≡ b → lcp_open_in (caused c s).log.past ≡ b
unfolding caused
caused_opens c s b h = h

pub caused_opens_now : (c : Cause) (s : LinkState) → OpensNow (sight s) → OpensNow (sight (caused c s))
caused_opens_now c s h = caused_opens c s (is_open s) h ∙ ap (λ (n : ℕ). n == 9) (sym (caused_state c s))

-- A caused state whose LCP is closed then has nothing that is marked freely.
pub closed_idle : (s : LinkState) → SitsNow (sight s) → busy_in (sight s) ≡ false → is_talking s.listener ≡ false → Idle (sight (lcp_closed s))
closed_idle s h over silent = idle_by (sits_any (lcp_state (lcp_closed s) == 9) (closed_sits s h)) (still_ended (closed_adds s) over) (closed_shut s) ((closed_adds s).talks silent)

pub caused_now : (c : Cause) (s : LinkState) → SitsNow (sight s) → SitsNow (sight (caused c s))
caused_now c s h = subst (λ (n : ℕ). SitsAt (n == 9) (sight (caused c s))) (sym (caused_state c s)) (caused_sits (is_open s) c s h)

-- A CAUSE ENDS THE SESSION

ended_rule_by : (b : Bool) (c : Cause) (s : LinkState) → is_busy s ≡ b → Rule 5 (sight s) (sight (ended_if b c s))
ended_rule_by false c s e = rule_more (omega arith) (rule_none (sight s))
ended_rule_by true c s e = record {
  adds = adds_then (caused_adds c s) (closed_adds (caused c s));
  sits = λ h. sits_any (lcp_state (lcp_closed (caused c s)) == 9) (closed_sits (caused c s) (caused_now c s h));
  ends = λ h goes over. (closed_shut (caused c s), (closed_adds (caused c s)).talks (caused_silent c s));
  quiet = λ i. absurd (false≢true (sym i.over ∙ e));
  opens = λ h. closed_opens (caused c s) (caused_opens_now c s h);
}

pub ended_rule : (c : Cause) (s : LinkState) → Rule 5 (sight s) (sight (ended_by c s))
unfolding ended_by
ended_rule c s = ended_rule_by (is_busy s) c s refl

ended_over_by : (b : Bool) (c : Cause) (s : LinkState) → is_busy s ≡ b → busy_in (sight (ended_if b c s)) ≡ false
ended_over_by false c s e = e
ended_over_by true c s e = still_ended (closed_adds (caused c s)) (caused_over c s)

-- Behind it no session goes on.
pub ended_over : (c : Cause) (s : LinkState) → busy_in (sight (ended_by c s)) ≡ false
unfolding ended_by
ended_over c s = ended_over_by (is_busy s) c s refl
