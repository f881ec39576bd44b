-- No hold outlasts its time, event by event; and with that nothing of a link is left behind.
use Rattle.std.proofs.Common.{◌≡◌, ℕ, ◌+◌, ◌≤◌, Bool, true, false, cond, Option, None, Some, List, [], ◌∷◌, length, refl, ap, sym, ◌∙◌, subst, arith}
use Rattle.std.specs.Prelude.{◌*◌, ◌==◌, ◌||◌, nat_le, nat_lt, not, is_none, is_some, filter, if◌then◌else◌}
use Rattle.std.proofs.lemmas.Bool.{false≢true}
use Rattle.std.proofs.lemmas.Bool.Decides.{nat_tests}
use Rattle.ppp_auth.specs.Setting.{waits}
use Rattle.ppp_base.specs.declared.posts.Post.{Post}
use Rattle.ppp_base.specs.declared.posts.Post.TheVariants.{Member, Refused, Close, Send, Reject, Wake}
use Rattle.ppp_base.specs.declared.signal_word.SignalWord.{SignalWord}
use Rattle.ppp_base.specs.declared.signal_word.SignalWord.TheVariants.{Hup, Int, Term, Usr1, Usr2}
use Rattle.ppp_chat.specs.Event.{tick_at}
use Rattle.ppp_chat.specs.Script.{ChatScript}
use Rattle.ppp_control.specs.Rules.{ticks}
use Rattle.ppp_dial.specs.declared.call.CallKind.TheVariants as call
use Rattle.ppp_dial.specs.declared.now.DialNow.{DialNow}
use Rattle.ppp_dial.specs.declared.now.DialNow.TheVariants.{Begin, Finish, Hold, Nothing, Wait}
use Rattle.ppp_dial.specs.declared.policy.DialPolicy.{DialPolicy}
use Rattle.ppp_dial.specs.declared.session_end.SessionEnd.{SessionEnd}
use Rattle.ppp_dial.specs.Answer.{attempt, next}
use Rattle.ppp_dial.specs.DialLaw.{has_failed_often}
use Rattle.ppp_dial.specs.LookingBack.{failures_with, hold_since, is_nothing as tells_nothing, status_of, was_begun, was_to_wait}
use Rattle.ppp_hooks.specs.HookPast.{ends_in}
use Rattle.ppp_mark.specs.Log.{room_of}
use Rattle.ppp_mark.specs.Marks.{ended_mark, refused_mark, signal_number}
use Rattle.ppp_mark.specs.Scripts.{said_in}
use Rattle.ppp_outside.specs.Counts.{raised}
use Rattle.ppp_outside.specs.declared.spawner.ScriptEnd.{ScriptEnd}
use Rattle.ppp_timer.specs.Due.{has_come, moment_of}
use Rattle.ppp_timer.specs.declared.slot.Slot.{Slot}
use Rattle.ppp_timer.specs.declared.slot.Slot.TheVariants as slot
use Rattle.ppp_link_rules.specs.declared.cause.Cause.{Cause}
use Rattle.ppp_link_rules.specs.declared.errand.Errand.TheVariants.{Waiting}
use Rattle.ppp_link_rules.specs.declared.errand.ReadEnd.{ReadEnd}
use Rattle.ppp_link_rules.specs.declared.errand.ReadEnd.TheVariants as read
use Rattle.ppp_link_rules.specs.declared.errand.SentEnd.{SentEnd}
use Rattle.ppp_link_rules.specs.declared.errand.SentEnd.TheVariants as sent
use Rattle.ppp_link_rules.specs.CauseStatus.{closed_by, dial_failed, join_refused, line_ended, read_failed, signalled, write_failed}
use Rattle.ppp_link_rules.specs.Dialling.{dial_says, dial_so_far, end_by}
use Rattle.ppp_link_rules.specs.Facts.{GoesRight}
use Rattle.ppp_link_rules.specs.Hearing.{looked_after, octet_taken, octets_taken, talk_begun_by}
use Rattle.ppp_link_rules.specs.LinkEvent.{Event, Begin as begins, Dialled, Bytes, LineOver, Flushed, Tick, Signal, FromTable, HookOver}
use Rattle.ppp_link_rules.specs.LinkPart.{LinkPart, after, after_if, after_unless, happened, is_nothing, is_present, job_ended, reading_back, writing_back}
use Rattle.ppp_link_rules.specs.LinkState.{LinkState, control, is_busy, is_lasting, lcp_state}
use Rattle.ppp_link_rules.specs.Marks.{Dials, Doing, HasFinished, HasLine, Holds, IsOver, New, Waits, cause_in, doing_in, hold_by, status_by, stay_in}
use Rattle.ppp_link_rules.specs.Posts.{made_member, names_present, post_taken, stay_of}
use Rattle.ppp_link_rules.specs.Sessions.{attempted, dial_answered, dial_come, is_over, line_come, line_come_if, line_lost, over_if, over_marked, session_over, with_dial_back, with_failure, with_line}
use Rattle.ppp_link_rules.specs.Signals.{hung_up_by, signal_marked, signal_taken, stopped_by}
use Rattle.ppp_link_rules.specs.Ticking.{moments_of, slots_treated, ticked, timers_treated, treated as slot_treated, treated_if, with_time}
use Rattle.ppp_link_rules.specs.Wishes.{dial_policy}
use Rattle.ppp_link_facts.specs.Budget.{BetweenSteps, SaidLast}
use Rattle.ppp_link_facts.specs.Errands.{ErrandsStand}
use Rattle.ppp_link_facts.proofs.AuthRules.{phase_rule}
use Rattle.ppp_link_facts.proofs.Budgets.{Mid, mid_more}
use Rattle.ppp_link_facts.proofs.DialFacts.{come_some, last_is}
use Rattle.ppp_link_facts.proofs.EndRules.{due_same, ended_rule}
use Rattle.ppp_link_facts.proofs.ErrandEvents.{each_event_tells}
use Rattle.ppp_link_facts.proofs.EventRules.{and_right, cost, made_rule, none_not, present_stay, refused_rule, rejected_in_rule, sent_in_rule, slot_if_mid, timed_mid}
use Rattle.ppp_link_facts.proofs.HearRules.{chat_loud, looked_rule, lost_rule, octet_rule, opened_loud, ticked_rule}
use Rattle.ppp_link_facts.proofs.LcpFacts.{shut_not_open}
use Rattle.ppp_link_facts.proofs.LcpRules.{called_rule}
use Rattle.ppp_link_facts.proofs.Room.{each_event, mid_of, room_for_steps}
use Rattle.ppp_link_facts.proofs.Sight.{Adds, Sight, last_told, sight}

abbrev Fine : Sight → Type 0
Fine x = has_come x.time (hold_by (doing_in x.past)) ≡ false

fine_kept : {k : ℕ} {x y : Sight} → Adds k x y → Fine x → Fine y
fine_kept {x = x} {y = y} a h =
    ap (λ (d : Doing). has_come y.time (hold_by d)) a.doing ∙ ap (λ (t : ℕ). has_come t (hold_by (doing_in x.past))) a.time ∙ h

-- ANSWERS OF THE DIAL

abbrev is_hold : DialNow → Bool
is_hold Nothing = false
is_hold Begin = false
is_hold (Hold ms) = true
is_hold Wait = false
is_hold (Finish status) = false

attempted_fine : (s : LinkState) → Fine (sight (attempted s))
unfolding attempted
attempted_fine s = refl

-- an answer that isn't a hold
dial_fine : (answer : DialNow) (s : LinkState) → is_hold answer ≡ false → Fine (sight s) → Fine (sight (dial_answered answer s))
dial_fine Nothing s e h = h
dial_fine Begin s e h = attempted_fine s
dial_fine (Hold ms) s e h = absurd (false≢true (sym e))
dial_fine Wait s e h = refl
dial_fine (Finish status) s e h = refl

-- and that says something
told_fine : (answer : DialNow) (s : LinkState) → is_hold answer ≡ false → tells_nothing answer ≡ false → Fine (sight (dial_answered answer s))
told_fine Nothing s e f = absurd (false≢true (sym f))
told_fine Begin s e f = attempted_fine s
told_fine (Hold ms) s e f = absurd (false≢true (sym e))
told_fine Wait s e f = refl
told_fine (Finish status) s e f = refl

either_no : (test : DialNow → Bool) (b : Bool) (x y : DialNow) → test x ≡ false → test y ≡ false → test (if b then x else y) ≡ false
either_no test true x y e f = e
either_no test false x y e f = f

attempt_no : (test : DialNow → Bool) (room : ℕ) → test Begin ≡ false → test (Finish 34) ≡ false → test (attempt room) ≡ false
attempt_no test room b f = either_no test (nat_lt room 1024) (Finish 34) Begin f b

next_no : (test : DialNow → Bool) (policy : DialPolicy) (room : ℕ) → test Begin ≡ false → test (Finish 34) ≡ false → test Wait ≡ false → test (next policy room) ≡ false
next_no test policy room b f w = either_no test policy.demand Wait (attempt room) w (attempt_no test room b f)

next_or_nothing : (b : Bool) (s : LinkState) → Fine (sight s) → Fine (sight (dial_answered (if b then next (dial_policy s.config) (room_of s.log) else Nothing) s))
next_or_nothing b s h =
    dial_fine _ s (either_no is_hold b (next (dial_policy s.config) (room_of s.log)) Nothing (next_no is_hold (dial_policy s.config) (room_of s.log) refl refl refl) refl) h

attempt_or_nothing : (b : Bool) (s : LinkState) → Fine (sight s) → Fine (sight (dial_answered (if b then attempt (room_of s.log) else Nothing) s))
attempt_or_nothing b s h = dial_fine _ s (either_no is_hold b (attempt (room_of s.log)) Nothing (attempt_no is_hold (room_of s.log) refl refl) refl) h

-- A hold lasts.
later : (t h : ℕ) → (h == 0) ≡ false → nat_le (t + h * 1000) t ≡ false
later t h e = grind (arith, nat_tests, e)

either_fine : (s : LinkState) (b : Bool) (x y : DialNow) → (b ≡ true → Fine (sight (dial_answered x s))) → (b ≡ false → Fine (sight (dial_answered y s))) → Fine (sight (dial_answered (if b then x else y) s))
either_fine s true x y f g = f refl
either_fine s false x y f g = g refl

end_fine : (end : SessionEnd) (s : LinkState) → Fine (sight s) → Fine (sight (dial_answered (dial_says (call.SessionOver end) s) s))
end_fine end s h =
    let policy : DialPolicy = dial_policy s.config in
    let room : ℕ = room_of s.log in
    let failures : ℕ = failures_with (call.SessionOver end) (dial_so_far s).failures in
    let goes : Fine (sight (dial_answered (next policy room) s)) = dial_fine (next policy room) s (next_no is_hold policy room refl refl refl) h in
    let last : DialNow = if policy.holdoff_s == 0 then next policy room else Hold (policy.holdoff_s * 1000) in
    let third : DialNow = if end.cause == 12 then next policy room else last in
    let second : DialNow = if has_failed_often policy.maxfail failures then Finish end.status else third in
    let first : DialNow = if not policy.persist then Finish end.status else second in
    either_fine s (dial_so_far s).stopped (Finish 5) first (λ e. refl)
    (λ e. either_fine s (not policy.persist) (Finish end.status) second (λ e1. refl)
    (λ e1. either_fine s (has_failed_often policy.maxfail failures) (Finish end.status) third (λ e2. refl)
    (λ e2. either_fine s (end.cause == 12) (next policy room) last (λ e3. goes)
    (λ e3. either_fine s (policy.holdoff_s == 0) (next policy room) (Hold (policy.holdoff_s * 1000)) (λ e4. goes) (λ e4. later s.time policy.holdoff_s e4)))))

-- TICKS: a hold whose time has come at the beginning is treated.

slot_fine : (which : Slot) (s : LinkState) → Fine (sight s) → Fine (sight (slot_treated which s))
slot_fine slot.LcpRestart s h = fine_kept (called_rule ticks s refl).adds h
slot_fine slot.AuthRestart s h = fine_kept (phase_rule waits s).adds h
slot_fine slot.AuthEnd s h = h
slot_fine slot.Echo s h = h
slot_fine slot.Hold s h = next_or_nothing (has_come s.time (hold_since (dial_so_far s).last)) s h
slot_fine slot.IpcpRestart s h = h
slot_fine slot.Idle s h = h
slot_fine slot.Connect s h = h

slot_if_fine : (b : Bool) (which : Slot) (s : LinkState) → Fine (sight s) → Fine (sight (treated_if b which s))
slot_if_fine true which s h = slot_fine which s h
slot_if_fine false which s h = h

slots_fine_by : (b : Bool) (one : Slot) (due : List Slot) (s : LinkState) → Fine (sight s) → ((t : LinkState) → Fine (sight t) → Fine (sight (slots_treated due t))) → Fine (sight (slots_treated (cond b (one ∷ due) due) s))
slots_fine_by false one due s h f = f s h
slots_fine_by true one due s h f = f (treated_if (is_some (moment_of (moments_of s) one)) one s) (slot_if_fine (is_some (moment_of (moments_of s) one)) one s h)

slots_fine : (due : Slot → Bool) (all : List Slot) (s : LinkState) → Fine (sight s) → Fine (sight (slots_treated (filter due all) s))
slots_fine due [] s h = h
slots_fine due (one ∷ all) s h = slots_fine_by (due one) one (filter due all) s h (λ t h1. slots_fine due all t h1)

-- before the slot of the hold: the time and the hold are those of the beginning
record Before (time : ℕ) (hold : Option ℕ) (m : ℕ) (s : LinkState) : Type 0 where
  pub now : s.time ≡ time
  pub holds : hold_by (doing_in s.log.past) ≡ hold
  pub mid : Mid m 960 (sight s)

since_holds : (d : Doing) (last : DialNow × ℕ) → SaidLast d last → is_some (hold_by d) ≡ true → hold_since last ≡ hold_by d
since_holds New last h e = absurd (false≢true e)
since_holds Dials last h e = absurd (false≢true e)
since_holds HasLine last h e = absurd (false≢true e)
since_holds IsOver last h e = absurd (false≢true e)
since_holds (Holds until) last h e = h
since_holds Waits last h e = absurd (false≢true e)
since_holds (HasFinished status) last h e = absurd (false≢true e)

-- it has come: it is over
hold_treated : {m : ℕ} (time : ℕ) (hold : Option ℕ) (s : LinkState) → Before time hold m s → has_come time hold ≡ true → Fine (sight (treated_if (is_some (moment_of (moments_of s) slot.Hold)) slot.Hold s))
hold_treated time hold s k come =
    let some : is_some (hold_by (doing_in s.log.past)) ≡ true = ap is_some k.holds ∙ come_some time hold come in
    let last : hold_since (dial_so_far s).last ≡ hold_by (doing_in s.log.past) = ap hold_since (last_is s.config.line s.log.limit s.log.past) ∙ since_holds (doing_in s.log.past) (last_told s.log.past) k.mid.said some in
    let now : has_come s.time (hold_since (dial_so_far s).last) ≡ true = ap (λ (o : Option ℕ). has_come s.time o) (last ∙ k.holds) ∙ ap (λ (t : ℕ). has_come t hold) k.now ∙ come in
    let policy : DialPolicy = dial_policy s.config in
    subst (λ (b : Bool). Fine (sight (treated_if b slot.Hold s))) (sym some)
    (subst (λ (b : Bool). Fine (sight (dial_answered (if b then next policy (room_of s.log) else Nothing) s))) (sym now)
    (told_fine (next policy (room_of s.log)) s (next_no is_hold policy (room_of s.log) refl refl refl) (next_no tells_nothing policy (room_of s.log) refl refl refl)))

hold_step_by : {m : ℕ} (b : Bool) (time : ℕ) (hold : Option ℕ) (due : Slot → Bool) (all : List Slot) (s : LinkState) → has_come time hold ≡ b → Before time hold m s
    → Fine (sight (slots_treated (cond b (slot.Hold ∷ filter due all) (filter due all)) s))
hold_step_by true time hold due all s e k = slots_fine due all (treated_if (is_some (moment_of (moments_of s) slot.Hold)) slot.Hold s) (hold_treated time hold s k e)
hold_step_by false time hold due all s e k =
    slots_fine due all s (ap (λ (o : Option ℕ). has_come s.time o) k.holds ∙ ap (λ (t : ℕ). has_come t hold) k.now ∙ e)

-- a slot before it
abbrev is_other : Slot → Bool
is_other slot.LcpRestart = true
is_other slot.AuthRestart = true
is_other slot.AuthEnd = true
is_other slot.Echo = true
is_other slot.Hold = false
is_other slot.IpcpRestart = true
is_other slot.Idle = true
is_other slot.Connect = true

other_before : (which : Slot) (b : Bool) (time : ℕ) (hold : Option ℕ) (s : LinkState) → is_other which ≡ true → s.time ≡ time → hold_by (doing_in s.log.past) ≡ hold
    → ((treated_if b which s).time ≡ time) × (hold_by (doing_in (treated_if b which s).log.past) ≡ hold)
other_before which false time hold s e t h = (t, h)
other_before slot.LcpRestart true time hold s e t h = let a = (called_rule ticks s refl).adds in (a.time ∙ t, ap hold_by a.doing ∙ h)
other_before slot.AuthRestart true time hold s e t h = let a = (phase_rule waits s).adds in (a.time ∙ t, ap hold_by a.doing ∙ h)
other_before slot.AuthEnd true time hold s e t h = (t, h)
other_before slot.Echo true time hold s e t h = (t, h)
other_before slot.Hold true time hold s e t h = absurd (false≢true e)
other_before slot.IpcpRestart true time hold s e t h = (t, h)
other_before slot.Idle true time hold s e t h = (t, h)
other_before slot.Connect true time hold s e t h = (t, h)

step_by : {m : ℕ} (b : Bool) (one : Slot) (time : ℕ) (hold : Option ℕ) (due : List Slot) (s : LinkState) → is_other one ≡ true → 2 ≤ m → m + cost one ≤ 952 → Before time hold m s
    → ((t : LinkState) → Before time hold (m + cost one) t → Fine (sight (slots_treated due t))) → ((t : LinkState) → Before time hold m t → Before time hold (m + cost one) t)
    → Fine (sight (slots_treated (cond b (one ∷ due) due) s))
step_by false one time hold due s o two le k f more = f s (more s k)
step_by true one time hold due s o two le k f more =
    let b : Bool = is_some (moment_of (moments_of s) one) in
    let p = other_before one b time hold s o k.now k.holds in
    f (treated_if b one s) (record { now = p.0; holds = p.1; mid = slot_if_mid b one s two k.mid le })

before_more : {m n : ℕ} (time : ℕ) (hold : Option ℕ) (s : LinkState) → m ≤ n → Before time hold m s → Before time hold n s
before_more time hold s le k = record { now = k.now; holds = k.holds; mid = mid_more le k.mid }

timers_fine : (t : LinkState) → Mid 900 960 (sight t) → Fine (sight (timers_treated t))
timers_fine t k =
    let hold : Option ℕ = hold_by (doing_in t.log.past) in
    let due : Slot → Bool = λ which. has_come t.time (moment_of (moments_of t) which) in
    let after_hold : List Slot = slot.IpcpRestart ∷ slot.Idle ∷ slot.Connect ∷ [] in
    let from_hold : (s : LinkState) → Before t.time hold 920 s → Fine (sight (slots_treated (filter due (slot.Hold ∷ after_hold)) s)) = λ s k1. hold_step_by (has_come t.time hold) t.time hold due after_hold s refl k1 in
    let from_echo : (s : LinkState) → Before t.time hold 920 s → Fine (sight (slots_treated (filter due (slot.Echo ∷ slot.Hold ∷ after_hold)) s)) =
    λ s k1. step_by (due slot.Echo) slot.Echo t.time hold (filter due (slot.Hold ∷ after_hold)) s refl (omega arith) (omega arith) k1 (λ u k2. from_hold u (before_more t.time hold u (omega arith) k2)) (λ u k2. before_more t.time hold u (omega arith) k2) in
    let from_end : (s : LinkState) → Before t.time hold 920 s → Fine (sight (slots_treated (filter due (slot.AuthEnd ∷ slot.Echo ∷ slot.Hold ∷ after_hold)) s)) =
    λ s k1. step_by (due slot.AuthEnd) slot.AuthEnd t.time hold (filter due (slot.Echo ∷ slot.Hold ∷ after_hold)) s refl (omega arith) (omega arith) k1 (λ u k2. from_echo u (before_more t.time hold u (omega arith) k2)) (λ u k2. before_more t.time hold u (omega arith) k2) in
    let from_auth : (s : LinkState) → Before t.time hold 913 s → Fine (sight (slots_treated (filter due (slot.AuthRestart ∷ slot.AuthEnd ∷ slot.Echo ∷ slot.Hold ∷ after_hold)) s)) =
    λ s k1. step_by (due slot.AuthRestart) slot.AuthRestart t.time hold (filter due (slot.AuthEnd ∷ slot.Echo ∷ slot.Hold ∷ after_hold)) s refl (omega arith) (omega arith) k1 (λ u k2. from_end u (before_more t.time hold u (omega arith) k2)) (λ u k2. before_more t.time hold u (omega arith) k2) in
    step_by (due slot.LcpRestart) slot.LcpRestart t.time hold (filter due (slot.AuthRestart ∷ slot.AuthEnd ∷ slot.Echo ∷ slot.Hold ∷ after_hold)) t refl (omega arith) (omega arith) (record { now = refl; holds = refl; mid = k })
    (λ u k2. from_auth u (before_more t.time hold u (omega arith) k2)) (λ u k2. before_more t.time hold u (omega arith) k2)

tick_fine : (moment : ℕ) (s : LinkState) → Mid 900 960 (sight s) → Fine (sight (ticked moment s))
unfolding ticked
tick_fine moment s k =
    let t : LinkState = with_time moment s in
    fine_kept (ticked_rule (timers_treated t).listener (timers_treated t) refl).adds (timers_fine t (timed_mid (sight s) t.time k))

-- EVENTS

octets_fine : (octets : List ℕ) (s : LinkState) → Fine (sight s) → Fine (sight (octets_taken octets s))
octets_fine [] s h = h
octets_fine (octet ∷ octets) s h = octets_fine octets (octet_taken octet s) (fine_kept (octet_rule octet s).adds h)

talk_fine : (o : Option ChatScript) (s : LinkState) → Fine (sight s) → Fine (sight (talk_begun_by o s))
talk_fine None s h = fine_kept (opened_loud s).adds h
talk_fine (Some script) s h = fine_kept (chat_loud (tick_at s.time) [] s).adds h

come_fine : (s : LinkState) → Fine (sight (line_come s))
unfolding line_come
come_fine s = talk_fine s.config.script (with_line s) refl

come_if_fine : (b : Bool) (s : LinkState) → Fine (sight s) → Fine (sight (line_come_if b s))
come_if_fine true s h = come_fine s
come_if_fine false s h = h

dialled_fine : (came : Bool) (s : LinkState) → Fine (sight s) → Fine (sight (dial_come came s))
dialled_fine true s h = come_if_fine (is_busy s) (with_dial_back s) h
dialled_fine false s h = fine_kept (ended_rule dial_failed (with_failure s)).adds h

lost_fine : (c : Cause) (s : LinkState) → Fine (sight s) → Fine (sight (line_lost c s))
lost_fine c s h = fine_kept (lost_rule c s).adds h

read_fine : (how : ReadEnd) (s : LinkState) → Fine (sight s) → Fine (sight (reading_back how s))
read_fine read.End s h = lost_fine line_ended s h
read_fine read.Failed s h = lost_fine read_failed s h
read_fine read.Left s h = h

sent_fine : (how : SentEnd) (s : LinkState) → Fine (sight s) → Fine (sight (writing_back how s))
sent_fine sent.All s h = h
sent_fine (sent.Failed count) s h = lost_fine write_failed s h

hup_fine : (busy holds : Bool) (s : LinkState) → Fine (sight s) → Fine (sight (hung_up_by busy holds s))
hup_fine true holds s h = fine_kept (ended_rule (signalled 1) (signal_marked Hup s)).adds h
hup_fine false true s h = next_or_nothing (is_some (hold_since (dial_so_far (signal_marked Hup s)).last)) (signal_marked Hup s) h
hup_fine false false s h = h

stopped_fine : (b : Bool) (word : SignalWord) (s : LinkState) → Fine (sight s) → Fine (sight (stopped_by b word s))
stopped_fine true word s h = h
stopped_fine false word s h =
    let t : LinkState = signal_marked word s in
    fine_kept (ended_rule (signalled (signal_number word)) (dial_answered (dial_says call.Stop t) t)).adds
    (dial_fine (dial_says call.Stop t) t (either_no is_hold (was_begun (dial_so_far t).last || is_some (status_of (dial_so_far t).last)) Nothing (Finish 5) refl refl) h)

signalled_fine : (word : SignalWord) (s : LinkState) → Fine (sight s) → Fine (sight (signal_taken word s))
unfolding signal_taken
signalled_fine Hup s h = hup_fine (is_busy s) (is_some (hold_by (control s).doing)) s h
signalled_fine Int s h = stopped_fine ((control s).stopped || is_some (status_by (control s).doing)) Int s h
signalled_fine Term s h = stopped_fine ((control s).stopped || is_some (status_by (control s).doing)) Term s h
signalled_fine Usr1 s h = h
signalled_fine Usr2 s h = h

posted_fine : (post : Post) (s : LinkState) → names_present (stay_of post) (control s).stay ≡ true → Fine (sight s) → Fine (sight (post_taken post s))
unfolding post_taken
posted_fine (Member stay unit live) s is h = fine_kept (made_rule stay unit live s (present_stay stay (stay_in s.log.past) is)).adds h
posted_fine (Refused stay reason) s is h =
    fine_kept (ended_rule (join_refused reason) (record s { log = record s.log { past = refused_mark s.time reason stay ∷ s.log.past } })).adds (fine_kept (refused_rule stay reason s (present_stay stay (stay_in s.log.past) is)).adds h)
posted_fine (Close stay unit why elapsed live) s is h =
    fine_kept (ended_rule (closed_by why) (made_member stay unit live s)).adds (fine_kept (made_rule stay unit live s (present_stay stay (stay_in s.log.past) is)).adds h)
posted_fine (Send protocol information) s is h = fine_kept (sent_in_rule (control s).stay protocol information s).adds h
posted_fine (Reject protocol information) s is h = fine_kept (rejected_in_rule (control s).stay protocol information s).adds h
posted_fine Wake s is h = attempt_or_nothing (was_to_wait (dial_so_far s).last) s h

job_fine : (answer : ScriptEnd) (s : LinkState) → Fine (sight s) → Fine (sight (job_ended answer s))
job_fine answer s h =
    due_same (λ p. has_come s.time (hold_by (doing_in p))) s.time (ended_mark s.time answer (ends_in (said_in s.log.past) + 1) ∷ s.log.past) (λ up n. refl) ∙ h

happened_fine : (event : Event) (s : LinkState) → is_present event s ≡ true → Mid 900 960 (sight s) → Fine (sight s) → Fine (sight (happened event s))
happened_fine begins s is k h = next_or_nothing (tells_nothing (dial_so_far s).last.0) s h
happened_fine (Dialled link session failed came) s is k h = dialled_fine came s h
happened_fine (Bytes link session offset octets) s is k h = octets_fine octets (record s { taken = raised s.taken (length octets) }) h
happened_fine (LineOver link session how) s is k h = read_fine how (record s { reading = Waiting }) h
happened_fine (Flushed link session how) s is k h = sent_fine how (record s { writing = Waiting }) h
happened_fine (Tick moment) s is k h = tick_fine moment s k
happened_fine (Signal word) s is k h = signalled_fine word s h
happened_fine (FromTable post) s is k h = posted_fine post s is h
happened_fine (HookOver target job not_started answer) s is k h = job_fine answer s h

over_if_fine : (b : Bool) (s : LinkState) → Fine (sight s) → Fine (sight (over_if b s))
over_if_fine false s h = h
over_if_fine true s h = end_fine (end_by s.config.line (control s).was_live (control s).cause) (over_marked s) refl

over_fine : (s : LinkState) → Fine (sight s) → Fine (sight (session_over s))
unfolding session_over
over_fine s h = over_if_fine (is_over s) s h

unless_fine : (b : Bool) (event : Event) (s : LinkState) → is_present event s ≡ true → Mid 900 960 (sight s) → Fine (sight s) → Fine (sight (after_unless b event s))
unless_fine true event s is k h = h
unless_fine false event s is k h = over_fine (looked_after (happened event s)) (fine_kept (looked_rule (happened event s)).adds (happened_fine event s is k h))

after_fine : (event : Event) (s : LinkState) → is_present event s ≡ true → Mid 900 960 (sight s) → Fine (sight s) → Fine (sight (after event s))
unfolding after
after_fine event s is k h = unless_fine (is_nothing event s) event s is k h

-- WHAT GOES RIGHT

pub right_of : (s : LinkState) → BetweenSteps s → ErrandsStand s → has_come s.time (hold_by (control s).doing) ≡ false → GoesRight s
right_of s k t hold = record {
  on = t.on;
  not_over = t.not_over;
  hold = hold;
  shut = λ lasts some. shut_not_open (lcp_state s) (k.stands.shut (and_right (is_lasting s) (is_none (cause_in s.log.past)) (none_not (cause_in s.log.past) some)));
  few = k.budget.few;
  room = λ lasts. (room_for_steps s k).attempt;
}

pub each_event_right : (event : Event) (s : LinkState) → is_present event s ≡ true → BetweenSteps s → ErrandsStand s → GoesRight s → GoesRight (after event s)
each_event_right event s is k t g =
    right_of (after event s) (each_event event s is k) (each_event_tells event s is k t) (after_fine event s is (mid_of s k.stands k.budget) g.hold)

by_present : (b : Bool) (event : Event) (s : LinkState) → is_present event s ≡ b → BetweenSteps s → ErrandsStand s → GoesRight s → GoesRight (after_if b event s)
by_present true event s e k t g = each_event_right event s e k t g
by_present false event s e k t g = g

pub each_step_right : (event : Event) (old new : LinkState) (taken : Bool) → LinkPart old event new taken → BetweenSteps old → ErrandsStand old → GoesRight old → GoesRight new
each_step_right event old new taken part k t g = subst GoesRight (sym part.left) (by_present taken event old (sym part.told) k t g)
