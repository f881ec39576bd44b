-- What the dial says, and what follows it.
use Rattle.std.proofs.Common.{◌≡◌, ℕ, ◌+◌, ◌≤◌, Bool, true, false, Option, None, Some, List, [], ◌∷◌, length, refl, ap, sym, ◌∙◌, arith}
use Rattle.std.specs.Prelude.{◌-◌, ◌*◌, ◌==◌, ◌&&◌, ◌||◌, not, nat_lt, is_none, is_some, if◌then◌else◌}
use Rattle.std.proofs.lemmas.Bool.{false≢true}
use Rattle.std.proofs.lemmas.Bool.Decides.{nat_tests}
use Rattle.ppp_dial.specs.declared.call.CallKind.TheVariants.{Hup, SessionOver, Start, Stop, Tick, Wake}
use Rattle.ppp_dial.specs.declared.now.DialNow.{DialNow}
use Rattle.ppp_dial.specs.declared.now.DialNow.TheVariants.{Begin, Finish, Hold, Nothing, Wait}
use Rattle.ppp_dial.specs.declared.policy.DialPolicy.{DialPolicy}
use Rattle.ppp_dial.specs.declared.session_end.SessionEnd.{SessionEnd}
use Rattle.ppp_dial.specs.Answer.{attempt, next}
use Rattle.ppp_dial.specs.DialLaw.{has_failed_often}
use Rattle.ppp_dial.specs.Happened.{Happened}
use Rattle.ppp_dial.specs.LookingBack.{failures_with, hold_since, is_nothing, last_in, nothing_yet, status_of, was_begun, was_to_wait}
use Rattle.ppp_mark.specs.declared.mark.Mark.{Mark}
use Rattle.ppp_mark.specs.declared.kind.TheConstants.{ATTEMPT, FINISHED, HOLD, WAIT}
use Rattle.ppp_mark.specs.Log.{room_of}
use Rattle.ppp_mark.specs.Marks.{finished_mark, hold_mark, wait_mark}
use Rattle.ppp_outside.specs.declared.line_words.LineWords.{LineWords}
use Rattle.ppp_timer.specs.Due.{has_come}
use Rattle.ppp_link_rules.specs.Dialling.{answer_of, dial_says, dial_so_far, dialled_by, dialled_in, stops_session}
use Rattle.ppp_link_rules.specs.LinkState.{LinkState}
use Rattle.ppp_link_rules.specs.Marks.{Dials, Doing, HasFinished, HasLine, Holds, IsOver, New, Waits, cause_in, doing_in, hold_by, is_new, is_session}
use Rattle.ppp_link_rules.specs.Sessions.{attempted, dial_answered}
use Rattle.ppp_link_rules.specs.Wishes.{dial_policy}
use Rattle.ppp_link_facts.specs.Budget.{SaidLast, doing_owed}
use Rattle.ppp_link_facts.proofs.Budgets.{Mid, mid_idle}
use Rattle.ppp_link_facts.proofs.EndRules.{eq_of, with_past}
use Rattle.ppp_link_facts.proofs.LcpFacts.{shut_not_open}
use Rattle.ppp_link_facts.proofs.Sight.{Idle, Sight, busy_in, last_by, last_told, sight}

-- THE LAST ANSWER, by the marks

abbrev tells_nothing : Option DialNow → Bool
tells_nothing None = false
tells_nothing (Some answer) = is_nothing answer

by_kinds : (a b c d : Bool) (z x : ℕ) → tells_nothing (if a then Some Begin else if b then Some (Hold z) else if c then Some Wait else if d then Some (Finish x) else None) ≡ false
by_kinds true b c d z x = refl
by_kinds false true c d z x = refl
by_kinds false false true d z x = refl
by_kinds false false false true z x = refl
by_kinds false false false false z x = refl

last_step : (a : Option DialNow) (stops : Bool) (line : LineWords) (room time : ℕ) (past : List Mark) (calls : List Happened) → tells_nothing a ≡ false
    → last_in nothing_yet (dialled_by a stops line room time past calls) ≡ last_by a time (last_in nothing_yet calls)
last_step None true line room time past calls e = refl
last_step None false line room time past calls e = refl
last_step (Some answer) stops line room time past calls e = ap (λ (b : Bool). if b then last_in nothing_yet calls else (answer, time)) e

pub last_is : (line : LineWords) (limit : ℕ) (past : List Mark) → last_in nothing_yet (dialled_in line limit past) ≡ last_told past
last_is line limit [] = refl
last_is line limit (m ∷ past) =
    last_step (answer_of m) (stops_session m past) line (limit - length past) m.time past (dialled_in line limit past) (by_kinds (m.kind == ATTEMPT) (m.kind == HOLD) (m.kind == WAIT) (m.kind == FINISHED) m.z m.x)
    ∙ ap (last_by (answer_of m) m.time) (last_is line limit past)

-- WHAT THE LINK DOES, as a number: New 0, a session 1, Holds 2, Waits 3, HasFinished 4

abbrev pub key : Doing → ℕ
key New = 0
key Dials = 1
key HasLine = 1
key IsOver = 1
key (Holds until) = 2
key Waits = 3
key (HasFinished status) = 4

abbrev pub about : DialNow → ℕ
about Nothing = 0
about Begin = 1
about (Hold ms) = 2
about Wait = 3
about (Finish status) = 4

is_0 : (now : DialNow) → is_nothing now ≡ (about now == 0)
is_0 Nothing = refl
is_0 Begin = refl
is_0 (Hold ms) = refl
is_0 Wait = refl
is_0 (Finish status) = refl

pub is_1 : (last : DialNow × ℕ) → was_begun last ≡ (about last.0 == 1)
is_1 (Nothing, at) = refl
is_1 (Begin, at) = refl
is_1 (Hold ms, at) = refl
is_1 (Wait, at) = refl
is_1 (Finish status, at) = refl

pub is_2 : (last : DialNow × ℕ) → is_some (hold_since last) ≡ (about last.0 == 2)
is_2 (Nothing, at) = refl
is_2 (Begin, at) = refl
is_2 (Hold ms, at) = refl
is_2 (Wait, at) = refl
is_2 (Finish status, at) = refl

pub is_3 : (last : DialNow × ℕ) → was_to_wait last ≡ (about last.0 == 3)
is_3 (Nothing, at) = refl
is_3 (Begin, at) = refl
is_3 (Hold ms, at) = refl
is_3 (Wait, at) = refl
is_3 (Finish status, at) = refl

pub is_4 : (last : DialNow × ℕ) → is_some (status_of last) ≡ (about last.0 == 4)
is_4 (Nothing, at) = refl
is_4 (Begin, at) = refl
is_4 (Hold ms, at) = refl
is_4 (Wait, at) = refl
is_4 (Finish status, at) = refl

key_is : (d : Doing) (last : DialNow × ℕ) → SaidLast d last → about last.0 ≡ key d
key_is New last e = eq_of (about last.0) 0 (sym (is_0 last.0) ∙ e)
key_is Dials last e = eq_of (about last.0) 1 (sym (is_1 last) ∙ e)
key_is HasLine last e = eq_of (about last.0) 1 (sym (is_1 last) ∙ e)
key_is IsOver last e = eq_of (about last.0) 1 (sym (is_1 last) ∙ e)
key_is (Holds until) last e = eq_of (about last.0) 2 (sym (is_2 last) ∙ ap is_some e)
key_is Waits last e = eq_of (about last.0) 3 (sym (is_3 last) ∙ e)
key_is (HasFinished status) last e = eq_of (about last.0) 4 (sym (is_4 last) ∙ ap is_some e)

-- so what the dial looks back on is what the link does
pub said_key : {m t : ℕ} (s : LinkState) → Mid m t (sight s) → about (dial_so_far s).last.0 ≡ key (doing_in s.log.past)
said_key s k = ap (λ (l : DialNow × ℕ). about l.0) (last_is s.config.line s.log.limit s.log.past) ∙ key_is (doing_in s.log.past) (last_told s.log.past) k.said

-- MARKS OF THE DIAL

finish_mid : {m t : ℕ} (k : ℕ) (x : Sight) (time status : ℕ) → Mid m (t + k) x → busy_in x ≡ false → 1 + k ≤ doing_owed (doing_in x.past) → Mid m t (with_past (finished_mark time status ∷ x.past) x)
finish_mid k x time status h over owed = record {
  sits = record { phase = h.sits.phase; stay = h.sits.stay; auth = h.sits.auth };
  shut = λ e. h.shut over;
  ends = h.ends;
  one = h.one;
  job = h.job;
  dial = h.dial;
  said = refl;
  lcp = h.lcp;
  free = omega (arith, h.free);
  few = λ goes. absurd (false≢true goes);
  owes = λ e. omega (arith, h.owes over, owed);
}

wait_mid : {m t : ℕ} (k : ℕ) (x : Sight) (time : ℕ) → Mid m (t + k) x → busy_in x ≡ false → 2 + k ≤ doing_owed (doing_in x.past) → Mid m t (with_past (wait_mark time ∷ x.past) x)
wait_mid k x time h over owed = record {
  sits = record { phase = h.sits.phase; stay = h.sits.stay; auth = h.sits.auth };
  shut = λ e. h.shut over;
  ends = h.ends;
  one = h.one;
  job = h.job;
  dial = h.dial;
  said = refl;
  lcp = h.lcp;
  free = omega (arith, h.free);
  few = λ goes. absurd (false≢true goes);
  owes = λ e. omega (arith, h.owes over, owed);
}

hold_mid : {m t : ℕ} (k : ℕ) (x : Sight) (time ms : ℕ) → Mid m (t + k) x → busy_in x ≡ false → 4 + k ≤ doing_owed (doing_in x.past) → Mid m t (with_past (hold_mark time ms ∷ x.past) x)
hold_mid k x time ms h over owed = record {
  sits = record { phase = h.sits.phase; stay = h.sits.stay; auth = h.sits.auth };
  shut = λ e. h.shut over;
  ends = h.ends;
  one = h.one;
  job = h.job;
  dial = h.dial;
  said = refl;
  lcp = h.lcp;
  free = omega (arith, h.free);
  few = λ goes. absurd (false≢true goes);
  owes = λ e. omega (arith, h.owes over, owed);
}

-- AN ATTEMPT, where there is room

attempted_mid : {m t : ℕ} (n total : ℕ) (s : LinkState) → Mid m t (sight s) → busy_in (sight s) ≡ false → 2 ≤ n → 1024 ≤ room_of s.log → Mid n total (sight (attempted s))
unfolding attempted
attempted_mid n total s h over two room =
    let i : Idle (sight s) = mid_idle h over in
    record {
      sits = record { phase = λ e. refl; stay = λ e. i.stay; auth = λ e. i.auth };
      shut = λ e. absurd (false≢true (sym e));
      ends = h.ends;
      one = h.one;
      job = h.job;
      dial = λ e. refl;
      said = refl;
      lcp = h.lcp ∙ shut_not_open (sight s).state i.shut;
      free = omega (arith, room);
      few = λ goes. omega (arith, two);
      owes = λ e. absurd (false≢true (sym e));
    }

enough : (room : ℕ) → nat_lt room 1024 ≡ false → 1024 ≤ room
enough room e = grind (arith, nat_tests, e)

attempt_by : {m t : ℕ} (k : ℕ) (s : LinkState) (b : Bool) → nat_lt (room_of s.log) 1024 ≡ b → Mid m (t + k) (sight s) → busy_in (sight s) ≡ false → 2 ≤ m → 1 + k ≤ doing_owed (doing_in s.log.past)
    → Mid m t (sight (dial_answered (if b then Finish 34 else Begin) s))
attempt_by k s true e h over two owed = finish_mid k (sight s) s.time 34 h over owed
attempt_by {m = m} {t = t} k s false e h over two owed = attempted_mid m t s h over two (enough (room_of s.log) e)

pub attempt_mid : {m t : ℕ} (k : ℕ) (s : LinkState) → Mid m (t + k) (sight s) → busy_in (sight s) ≡ false → 2 ≤ m → 1 + k ≤ doing_owed (doing_in s.log.past)
    → Mid m t (sight (dial_answered (attempt (room_of s.log)) s))
attempt_mid k s h over two owed = attempt_by k s (nat_lt (room_of s.log) 1024) refl h over two owed

next_by : {m t : ℕ} (k : ℕ) (s : LinkState) (demand : Bool) → Mid m (t + k) (sight s) → busy_in (sight s) ≡ false → 2 ≤ m → 2 + k ≤ doing_owed (doing_in s.log.past)
    → Mid m t (sight (dial_answered (if demand then Wait else attempt (room_of s.log)) s))
next_by k s true h over two owed = wait_mid k (sight s) s.time h over owed
next_by k s false h over two owed = attempt_mid k s h over two (omega (arith, owed))

pub next_mid : {m t : ℕ} (k : ℕ) (s : LinkState) → Mid m (t + k) (sight s) → busy_in (sight s) ≡ false → 2 ≤ m → 2 + k ≤ doing_owed (doing_in s.log.past)
    → Mid m t (sight (dial_answered (next (dial_policy s.config) (room_of s.log)) s))
next_mid k s h over two owed = next_by k s (dial_policy s.config).demand h over two owed

-- a choice of the dial
either_mid : {m t : ℕ} (s : LinkState) (b : Bool) (x y : DialNow) → (b ≡ true → Mid m t (sight (dial_answered x s))) → (b ≡ false → Mid m t (sight (dial_answered y s))) → Mid m t (sight (dial_answered (if b then x else y) s))
either_mid s true x y f g = f refl
either_mid s false x y f g = g refl

-- no session lasts where the link does something else
pub not_busy : (x : Sight) → is_session (doing_in x.past) ≡ false → busy_in x ≡ false
not_busy x e = ap (λ (b : Bool). b && is_none (cause_in x.past)) e

-- THE CALLS

pub new_owed : (d : Doing) → is_new d ≡ true → (2 ≤ doing_owed d) × (is_session d ≡ false)
new_owed New e = (omega arith, refl)
new_owed Dials e = absurd (false≢true e)
new_owed HasLine e = absurd (false≢true e)
new_owed IsOver e = absurd (false≢true e)
new_owed (Holds until) e = absurd (false≢true e)
new_owed Waits e = absurd (false≢true e)
new_owed (HasFinished status) e = absurd (false≢true e)

pub started_mid : {m : ℕ} (s : LinkState) → Mid m 960 (sight s) → 2 ≤ m → is_new (doing_in s.log.past) ≡ true → Mid m 960 (sight (dial_answered (dial_says Start s) s))
started_mid s h two new =
    let p : (2 ≤ doing_owed (doing_in s.log.past)) × (is_session (doing_in s.log.past) ≡ false) = new_owed (doing_in s.log.past) new in
    either_mid s (is_nothing (dial_so_far s).last.0) (next (dial_policy s.config) (room_of s.log)) Nothing (λ e. next_mid 0 s h (not_busy (sight s) p.1) two p.0) (λ e. h)

pub waits_owed : (d : Doing) → (key d == 3) ≡ true → (1 ≤ doing_owed d) × (is_session d ≡ false)
waits_owed New e = absurd (false≢true e)
waits_owed Dials e = absurd (false≢true e)
waits_owed HasLine e = absurd (false≢true e)
waits_owed IsOver e = absurd (false≢true e)
waits_owed (Holds until) e = absurd (false≢true e)
waits_owed Waits e = (omega arith, refl)
waits_owed (HasFinished status) e = absurd (false≢true e)

pub woken_mid : {m : ℕ} (s : LinkState) → Mid m 960 (sight s) → 2 ≤ m → Mid m 960 (sight (dial_answered (dial_says Wake s) s))
woken_mid s h two =
    either_mid s (was_to_wait (dial_so_far s).last) (attempt (room_of s.log)) Nothing
    (λ e.
    let is : (key (doing_in s.log.past) == 3) ≡ true = ap (λ (n : ℕ). n == 3) (sym (said_key s h)) ∙ sym (is_3 (dial_so_far s).last) ∙ e in
    let p = waits_owed (doing_in s.log.past) is in
    attempt_mid 0 s h (not_busy (sight s) p.1) two p.0)
    (λ e. h)

pub holds_owed : (d : Doing) → (key d == 2) ≡ true → (3 ≤ doing_owed d) × (is_session d ≡ false)
holds_owed New e = absurd (false≢true e)
holds_owed Dials e = absurd (false≢true e)
holds_owed HasLine e = absurd (false≢true e)
holds_owed IsOver e = absurd (false≢true e)
holds_owed (Holds until) e = (omega arith, refl)
holds_owed Waits e = absurd (false≢true e)
holds_owed (HasFinished status) e = absurd (false≢true e)

pub come_some : (now : ℕ) (o : Option ℕ) → has_come now o ≡ true → is_some o ≡ true
come_some now None e = absurd (false≢true e)
come_some now (Some moment) e = refl

pub held_mid : {m : ℕ} (s : LinkState) → Mid m 960 (sight s) → 2 ≤ m → Mid m 960 (sight (dial_answered (dial_says Tick s) s))
held_mid s h two =
    either_mid s (has_come s.time (hold_since (dial_so_far s).last)) (next (dial_policy s.config) (room_of s.log)) Nothing
    (λ e.
    let is : (key (doing_in s.log.past) == 2) ≡ true = ap (λ (n : ℕ). n == 2) (sym (said_key s h)) ∙ sym (is_2 (dial_so_far s).last) ∙ come_some s.time (hold_since (dial_so_far s).last) e in
    let p = holds_owed (doing_in s.log.past) is in
    next_mid 0 s h (not_busy (sight s) p.1) two (omega (arith, p.0)))
    (λ e. h)

pub holding_key : (d : Doing) → is_some (hold_by d) ≡ true → (key d == 2) ≡ true
holding_key New e = absurd (false≢true e)
holding_key Dials e = absurd (false≢true e)
holding_key HasLine e = absurd (false≢true e)
holding_key IsOver e = absurd (false≢true e)
holding_key (Holds until) e = refl
holding_key Waits e = absurd (false≢true e)
holding_key (HasFinished status) e = absurd (false≢true e)

-- The hang-up that ends a hold has its mark before.
pub hung_up_mid : {m : ℕ} (s : LinkState) → Mid m 961 (sight s) → 2 ≤ m → is_some (hold_by (doing_in s.log.past)) ≡ true → Mid m 960 (sight (dial_answered (dial_says Hup s) s))
hung_up_mid s h two holds =
    let is : (key (doing_in s.log.past) == 2) ≡ true = holding_key (doing_in s.log.past) holds in
    let p = holds_owed (doing_in s.log.past) is in
    either_mid s (is_some (hold_since (dial_so_far s).last)) (next (dial_policy s.config) (room_of s.log)) Nothing
    (λ e. next_mid 1 s h (not_busy (sight s) p.1) two p.0)
    (λ e. absurd (false≢true (sym e ∙ is_2 (dial_so_far s).last ∙ ap (λ (n : ℕ). n == 2) (said_key s h) ∙ is)))

pub stops_owed : (d : Doing) → (key d == 1) ≡ false → (key d == 4) ≡ false → (1 ≤ doing_owed d) × (is_session d ≡ false)
stops_owed New e f = (omega arith, refl)
stops_owed Dials e f = absurd (false≢true (sym e))
stops_owed HasLine e f = absurd (false≢true (sym e))
stops_owed IsOver e f = absurd (false≢true (sym e))
stops_owed (Holds until) e f = (omega arith, refl)
stops_owed Waits e f = (omega arith, refl)
stops_owed (HasFinished status) e f = absurd (false≢true (sym f))

pub or_false : (a b : Bool) → (a || b) ≡ false → (a ≡ false) × (b ≡ false)
or_false true b e = absurd (false≢true (sym e))
or_false false b e = (refl, e)

pub stopped_mid : {m : ℕ} (s : LinkState) → Mid m 960 (sight s) → Mid m 960 (sight (dial_answered (dial_says Stop s) s))
stopped_mid s h =
    either_mid s (was_begun (dial_so_far s).last || is_some (status_of (dial_so_far s).last)) Nothing (Finish 5)
    (λ e. h)
    (λ e.
    let p = or_false (was_begun (dial_so_far s).last) (is_some (status_of (dial_so_far s).last)) e in
    let one : (key (doing_in s.log.past) == 1) ≡ false = ap (λ (n : ℕ). n == 1) (sym (said_key s h)) ∙ sym (is_1 (dial_so_far s).last) ∙ p.0 in
    let four : (key (doing_in s.log.past) == 4) ≡ false = ap (λ (n : ℕ). n == 4) (sym (said_key s h)) ∙ sym (is_4 (dial_so_far s).last) ∙ p.1 in
    let q = stops_owed (doing_in s.log.past) one four in
    finish_mid 0 (sight s) s.time 5 h (not_busy (sight s) q.1) q.0)

-- A SESSION'S END

pub ended_mid : {m : ℕ} (end : SessionEnd) (s : LinkState) → Mid m 960 (sight s) → 2 ≤ m → is_session (doing_in s.log.past) ≡ false → 4 ≤ doing_owed (doing_in s.log.past)
    → Mid m 960 (sight (dial_answered (dial_says (SessionOver end) s) s))
ended_mid {m = m} end s h two none owed =
    let policy : DialPolicy = dial_policy s.config in
    let room : ℕ = room_of s.log in
    let over : busy_in (sight s) ≡ false = not_busy (sight s) none in
    let failures : ℕ = failures_with (SessionOver end) (dial_so_far s).failures in
    let goes : Mid m 960 (sight (dial_answered (next policy room) s)) = next_mid 0 s h over two (omega (arith, owed)) in
    let finishes : (status : ℕ) → Mid m 960 (sight (dial_answered (Finish status) s)) = λ status. finish_mid 0 (sight s) s.time status h over (omega (arith, owed)) in
    let last : DialNow = if policy.holdoff_s == 0 then next policy room else Hold (policy.holdoff_s * 1000) in
    let third : DialNow = if end.cause == 12 then next policy room else last in
    let second : DialNow = if has_failed_often policy.maxfail failures then Finish end.status else third in
    let first : DialNow = if not policy.persist then Finish end.status else second in
    either_mid s (dial_so_far s).stopped (Finish 5) first (λ e. finishes 5)
    (λ e. either_mid s (not policy.persist) (Finish end.status) second (λ e1. finishes end.status)
    (λ e1. either_mid s (has_failed_often policy.maxfail failures) (Finish end.status) third (λ e2. finishes end.status)
    (λ e2. either_mid s (end.cause == 12) (next policy room) last (λ e3. goes)
    (λ e3. either_mid s (policy.holdoff_s == 0) (next policy room) (Hold (policy.holdoff_s * 1000)) (λ e4. goes) (λ e4. hold_mid 0 (sight s) s.time (policy.holdoff_s * 1000) h over owed)))))

-- a session was begun
pub session_begun : (d : Doing) (last : DialNow × ℕ) → SaidLast d last → is_session d ≡ true → (was_begun last ≡ true) × (5 ≤ doing_owed d)
session_begun New last h e = absurd (false≢true e)
session_begun Dials last h e = (h, omega arith)
session_begun HasLine last h e = (h, omega arith)
session_begun IsOver last h e = absurd (false≢true e)
session_begun (Holds until) last h e = absurd (false≢true e)
session_begun Waits last h e = absurd (false≢true e)
session_begun (HasFinished status) last h e = absurd (false≢true e)
