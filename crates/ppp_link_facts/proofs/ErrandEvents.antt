-- Each event keeps what the log tells of the errands, and leaves no session that should be over.
use Rattle.std.proofs.Common.{◌≡◌, ◌≢◌, ℕ, ◌+◌, ◌≤◌, Bool, true, false, cond, Option, None, Some, List, [], ◌∷◌, ◌++◌, length, refl, ap, sym, ◌∙◌, subst, arith}
use Rattle.std.specs.Prelude.{◌==◌, ◌&&◌, ◌||◌, not, is_none, is_some, filter}
use Rattle.std.proofs.lemmas.Bool.{false≢true}
use Rattle.ppp_auth.specs.Setting.{waits}
use Rattle.ppp_base.specs.declared.posts.Post.{Post}
use Rattle.ppp_base.specs.declared.posts.Post.TheVariants.{Member, Refused, Close, Send, Reject, Wake}
use Rattle.ppp_base.specs.declared.signal_word.SignalWord.{SignalWord}
use Rattle.ppp_base.specs.declared.signal_word.SignalWord.TheVariants.{Hup, Int, Term, Usr1, Usr2}
use Rattle.ppp_chat.specs.Event.{tick_at}
use Rattle.ppp_chat.specs.Script.{ChatScript}
use Rattle.ppp_control.specs.Rules.{ticks}
use Rattle.ppp_dial.specs.declared.call.CallKind.TheVariants as call
use Rattle.ppp_dial.specs.declared.now.DialNow.TheVariants.{Finish, Nothing}
use Rattle.ppp_dial.specs.Answer.{attempt, next}
use Rattle.ppp_dial.specs.LookingBack.{failures_with, hold_since, status_of, was_begun, was_to_wait}
use Rattle.ppp_hooks.specs.HookPast.{ends_in}
use Rattle.ppp_lcp.specs.declared.wish.LcpWish.{LcpWish}
use Rattle.ppp_mark.specs.declared.mark.Mark.{Mark}
use Rattle.ppp_mark.specs.Log.{room_of}
use Rattle.ppp_mark.specs.Marks.{ended_mark, refused_mark, signal_number}
use Rattle.ppp_mark.specs.Scripts.{due_marks, said_in}
use Rattle.ppp_option_words.specs.LinkValues.{LinkValues}
use Rattle.ppp_outside.specs.Counts.{raised}
use Rattle.ppp_outside.specs.declared.spawner.ScriptEnd.{ScriptEnd}
use Rattle.ppp_secrets.specs.declared.secrets.SecretsPair.{SecretsPair}
use Rattle.ppp_timer.specs.Due.{has_come, moment_of, slots}
use Rattle.ppp_timer.specs.declared.slot.Slot.{Slot}
use Rattle.ppp_timer.specs.declared.slot.Slot.TheVariants as slot
use Rattle.ppp_link_rules.specs.declared.cause.Cause.{Cause}
use Rattle.ppp_link_rules.specs.declared.errand.Errand.{Errand}
use Rattle.ppp_link_rules.specs.declared.errand.Errand.TheVariants.{Absent, Waiting, Out}
use Rattle.ppp_link_rules.specs.declared.errand.ReadEnd.{ReadEnd}
use Rattle.ppp_link_rules.specs.declared.errand.ReadEnd.TheVariants as read
use Rattle.ppp_link_rules.specs.declared.errand.SentEnd.{SentEnd}
use Rattle.ppp_link_rules.specs.declared.errand.SentEnd.TheVariants as sent
use Rattle.ppp_link_rules.specs.CauseStatus.{closed_by, dial_failed, join_refused, line_ended, read_failed, signalled, write_failed}
use Rattle.ppp_link_rules.specs.Dialling.{dial_says, dial_so_far, end_by}
use Rattle.ppp_link_rules.specs.Ending.{ended_by}
use Rattle.ppp_link_rules.specs.Errands.{is_session as of_session, is_reading_out}
use Rattle.ppp_link_rules.specs.Facts.{is_dialling, is_with_line}
use Rattle.ppp_link_rules.specs.Hearing.{looked_after, octet_taken, octets_taken, talk_begun_by}
use Rattle.ppp_link_rules.specs.LinkEvent.{Event, Begin, Dialled, Bytes, LineOver, Flushed, Tick, Signal, FromTable, HookOver}
use Rattle.ppp_link_rules.specs.LinkPart.{LinkPart, after, after_if, after_unless, happened, is_nothing, is_present, job_ended, may_come_back, reading_back, writing_back}
use Rattle.ppp_link_rules.specs.LinkState.{LinkState, control, is_absent, is_busy, is_lasting, is_out, wants_line}
use Rattle.ppp_link_rules.specs.Marks.{Dials, Doing, HasFinished, HasLine, Holds, IsOver, New, Waits, cause_in, doing_in, hold_by, is_new, is_session, since_in, status_by, stay_in}
use Rattle.ppp_link_rules.specs.NewLink.{new_link}
use Rattle.ppp_link_rules.specs.Posts.{made_member, names_present, post_taken, stay_of}
use Rattle.ppp_link_rules.specs.Sessions.{at_end, dial_answered, dial_come, is_over, line_come, line_come_if, line_lost, over_if, over_marked, session_over, with_dial_back, with_failure, with_line}
use Rattle.ppp_link_rules.specs.Signals.{hung_up_by, signal_marked, signal_taken, stopped_by}
use Rattle.ppp_link_rules.specs.Ticking.{moments_of, slots_treated, ticked, timers_treated, treated as slot_treated, treated_if, with_time}
use Rattle.ppp_link_rules.specs.Wishes.{dial_policy}
use Rattle.ppp_link_facts.specs.Budget.{BetweenSteps, owed_in}
use Rattle.ppp_link_facts.specs.Errands.{ErrandsStand}
use Rattle.ppp_link_facts.proofs.AuthRules.{phase_rule}
use Rattle.ppp_link_facts.proofs.Budgets.{Mid}
use Rattle.ppp_link_facts.proofs.DialFacts.{come_some, holding_key, holds_owed, is_1, is_2, is_3, is_4, key, new_owed, or_false, said_key, stops_owed, waits_owed}
use Rattle.ppp_link_facts.proofs.EndRules.{due_same, ended_over, ended_rule}
use Rattle.ppp_link_facts.proofs.ErrandRules.{Errands, answer_errands, answered_on, either_errands, end_tells, errands_kept, is_just_over, told_errands}
use Rattle.ppp_link_facts.proofs.EventRules.{and_one, and_two, cost, costs, made_rule, not_true, out_there, present_stay, refused_rule, rejected_in_rule, sent_in_rule, signal_mid, slot_if_mid, timed_mid}
use Rattle.ppp_link_facts.proofs.HearRules.{chat_loud, looked_rule, lost_rule, octet_rule, opened_loud, ticked_rule}
use Rattle.ppp_link_facts.proofs.LcpRules.{called_rule}
use Rattle.ppp_link_facts.proofs.Room.{mid_of}
use Rattle.ppp_link_facts.proofs.Sight.{Sight, busy_in, sight}

-- OCTETS

octets_errands : (octets : List ℕ) (s : LinkState) → Errands (sight s) → Errands (sight (octets_taken octets s))
octets_errands [] s h = h
octets_errands (octet ∷ octets) s h = octets_errands octets (octet_taken octet s) (errands_kept (octet_rule octet s).adds h)

-- THE DIAL IS BACK

dialling_lasts : (d : Doing) → is_dialling d ≡ true → is_session d ≡ true
dialling_lasts New e = absurd (false≢true e)
dialling_lasts Dials e = refl
dialling_lasts HasLine e = absurd (false≢true e)
dialling_lasts IsOver e = absurd (false≢true e)
dialling_lasts (Holds until) e = absurd (false≢true e)
dialling_lasts Waits e = absurd (false≢true e)
dialling_lasts (HasFinished status) e = absurd (false≢true e)

right_false : (a b : Bool) → a ≡ true → (a && b) ≡ false → b ≡ false
right_false true b e f = f
right_false false b e f = absurd (false≢true e)

back_errands : (x : Sight) → busy_in x ≡ false → Errands x → Errands (record x { dial = Absent })
back_errands x over h = record {
  dial = λ there. absurd (false≢true (sym there));
  waits = λ dials back. right_false (is_session (doing_in x.past)) (is_none (cause_in x.past)) (dialling_lasts (doing_in x.past) dials) over;
  reading = h.reading;
  writing = h.writing;
  part = h.part;
  over = h.over;
}

line_errands : (s : LinkState) → is_absent s.dial ≡ true → Errands (sight (with_line s))
line_errands s back = record { dial = λ there. absurd (false≢true (sym there ∙ back)); waits = λ dials e. absurd (false≢true dials); reading = refl; writing = refl; part = refl; over = refl }

timed_errands : (x : Sight) (moment : ℕ) → Errands x → Errands (record x { time = moment })
timed_errands x moment h = record { dial = h.dial; waits = h.waits; reading = h.reading; writing = h.writing; part = h.part; over = h.over }

same_errands : (x : Sight) (talks : Bool) → Errands x → Errands (record x { talks = talks })
same_errands x talks h = record { dial = h.dial; waits = h.waits; reading = h.reading; writing = h.writing; part = h.part; over = h.over }

talk_errands : (o : Option ChatScript) (s : LinkState) → Errands (sight s) → Errands (sight (talk_begun_by o s))
talk_errands None s h = errands_kept (opened_loud s).adds h
talk_errands (Some script) s h = errands_kept (chat_loud (tick_at s.time) [] s).adds (same_errands (sight s) true h)

come_errands : (s : LinkState) → is_absent s.dial ≡ true → Errands (sight (line_come s))
unfolding line_come
come_errands s back = talk_errands s.config.script (with_line s) (line_errands s back)

come_if_errands : (b : Bool) (s : LinkState) → is_busy s ≡ b → Errands (sight s) → Errands (sight (line_come_if b (with_dial_back s)))
come_if_errands false s e h = back_errands (sight s) e h
come_if_errands true s e h = come_errands (with_dial_back s) refl

dialled_errands : (came : Bool) (s : LinkState) → Errands (sight s) → Errands (sight (dial_come came s))
dialled_errands true s h = come_if_errands (is_busy s) s refl h
dialled_errands false s h =
    let t : LinkState = with_failure s in
    let y : Sight = sight (ended_by dial_failed t) in
    let a = (ended_rule dial_failed t).adds in
    record {
      dial = λ there. absurd (false≢true (sym there ∙ ap is_absent a.dial));
      waits = λ dials back. right_false (is_session (doing_in y.past)) (is_none (cause_in y.past)) (dialling_lasts (doing_in y.past) dials) (ended_over dial_failed t);
      reading = ap is_with_line a.doing ∙ h.reading ∙ ap (λ e. not (is_absent e)) (sym a.reading);
      writing = ap is_with_line a.doing ∙ h.writing ∙ ap (λ e. not (is_absent e)) (sym a.writing);
      part = ap is_with_line a.doing ∙ h.part ∙ sym a.lines;
      over = ap is_just_over a.doing ∙ h.over;
    }

-- THE LINE

lost_errands : (c : Cause) (s : LinkState) → Errands (sight s) → Errands (sight (line_lost c s))
lost_errands c s h = errands_kept (lost_rule c s).adds h

read_errands : (how : ReadEnd) (s : LinkState) → Errands (sight s) → Errands (sight (reading_back how s))
read_errands read.End s h = lost_errands line_ended s h
read_errands read.Failed s h = lost_errands read_failed s h
read_errands read.Left s h = h

sent_errands : (how : SentEnd) (s : LinkState) → Errands (sight s) → Errands (sight (writing_back how s))
sent_errands sent.All s h = h
sent_errands (sent.Failed count) s h = lost_errands write_failed s h

reading_in : (x : Sight) → is_out x.reading ≡ true → Errands x → Errands (record x { reading = Waiting })
reading_in x out h = record { dial = h.dial; waits = h.waits; reading = h.reading ∙ ap not (out_there x.reading out); writing = h.writing; part = h.part; over = h.over }

writing_in : (x : Sight) → is_out x.writing ≡ true → Errands x → Errands (record x { writing = Waiting })
writing_in x out h = record { dial = h.dial; waits = h.waits; reading = h.reading; writing = h.writing ∙ ap not (out_there x.writing out); part = h.part; over = h.over }

-- THE DIAL'S CALLS

held_errands : {m t : ℕ} (s : LinkState) → Mid m t (sight s) → Errands (sight s) → Errands (sight (dial_answered (dial_says call.Tick s) s))
held_errands s k h =
    either_errands s (has_come s.time (hold_since (dial_so_far s).last)) (next (dial_policy s.config) (room_of s.log)) Nothing
    (λ e.
    let is : (key (doing_in s.log.past) == 2) ≡ true = ap (λ (n : ℕ). n == 2) (sym (said_key s k)) ∙ sym (is_2 (dial_so_far s).last) ∙ come_some s.time (hold_since (dial_so_far s).last) e in
    answer_errands (next (dial_policy s.config) (room_of s.log)) s h (holds_owed (doing_in s.log.past) is).1)
    (λ e. h)

woken_errands : {m t : ℕ} (s : LinkState) → Mid m t (sight s) → Errands (sight s) → Errands (sight (dial_answered (dial_says call.Wake s) s))
woken_errands s k h =
    either_errands s (was_to_wait (dial_so_far s).last) (attempt (room_of s.log)) Nothing
    (λ e.
    let is : (key (doing_in s.log.past) == 3) ≡ true = ap (λ (n : ℕ). n == 3) (sym (said_key s k)) ∙ sym (is_3 (dial_so_far s).last) ∙ e in
    answer_errands (attempt (room_of s.log)) s h (waits_owed (doing_in s.log.past) is).1)
    (λ e. h)

stop_errands : {m t : ℕ} (s : LinkState) → Mid m t (sight s) → Errands (sight s) → Errands (sight (dial_answered (dial_says call.Stop s) s))
stop_errands s k h =
    either_errands s (was_begun (dial_so_far s).last || is_some (status_of (dial_so_far s).last)) Nothing (Finish 5)
    (λ e. h)
    (λ e.
    let p = or_false (was_begun (dial_so_far s).last) (is_some (status_of (dial_so_far s).last)) e in
    let one : (key (doing_in s.log.past) == 1) ≡ false = ap (λ (n : ℕ). n == 1) (sym (said_key s k)) ∙ sym (is_1 (dial_so_far s).last) ∙ p.0 in
    let four : (key (doing_in s.log.past) == 4) ≡ false = ap (λ (n : ℕ). n == 4) (sym (said_key s k)) ∙ sym (is_4 (dial_so_far s).last) ∙ p.1 in
    answer_errands (Finish 5) s h (stops_owed (doing_in s.log.past) one four).1)

-- TICKS

slot_errands : {m : ℕ} (which : Slot) (s : LinkState) → Mid m 960 (sight s) → Errands (sight s) → Errands (sight (slot_treated which s))
slot_errands slot.LcpRestart s k h = errands_kept (called_rule ticks s refl).adds h
slot_errands slot.AuthRestart s k h = errands_kept (phase_rule waits s).adds h
slot_errands slot.AuthEnd s k h = h
slot_errands slot.Echo s k h = h
slot_errands slot.Hold s k h = held_errands s k h
slot_errands slot.IpcpRestart s k h = h
slot_errands slot.Idle s k h = h
slot_errands slot.Connect s k h = h

slot_if_errands : {m : ℕ} (b : Bool) (which : Slot) (s : LinkState) → Mid m 960 (sight s) → Errands (sight s) → Errands (sight (treated_if b which s))
slot_if_errands true which s k h = slot_errands which s k h
slot_if_errands false which s k h = h

slots_errands_by : (b : Bool) (one : Slot) (due : List Slot) (rest m : ℕ) (s : LinkState) → 2 ≤ m → Mid m 960 (sight s) → m + (cost one + rest) ≤ 952 → Errands (sight s)
    → ((n : ℕ) (t : LinkState) → 2 ≤ n → Mid n 960 (sight t) → n + rest ≤ 952 → Errands (sight t) → Errands (sight (slots_treated due t))) → Errands (sight (slots_treated (cond b (one ∷ due) due) s))
slots_errands_by false one due rest m s two k le h f = f m s two k (omega (arith, le)) h
slots_errands_by true one due rest m s two k le h f =
    let b : Bool = is_some (moment_of (moments_of s) one) in
    f (m + cost one) (treated_if b one s) (omega (arith, two)) (slot_if_mid b one s two k (omega (arith, le))) (omega (arith, le)) (slot_if_errands b one s k h)

slots_errands : (due : Slot → Bool) (all : List Slot) (m : ℕ) (s : LinkState) → 2 ≤ m → Mid m 960 (sight s) → m + costs all ≤ 952 → Errands (sight s) → Errands (sight (slots_treated (filter due all) s))
slots_errands due [] m s two k le h = h
slots_errands due (one ∷ all) m s two k le h = slots_errands_by (due one) one (filter due all) (costs all) m s two k le h (λ n t two1 k1 le1 h1. slots_errands due all n t two1 k1 le1 h1)

tick_errands : (moment : ℕ) (s : LinkState) → Mid 900 960 (sight s) → Errands (sight s) → Errands (sight (ticked moment s))
unfolding ticked
tick_errands moment s k h =
    let t : LinkState = with_time moment s in
    errands_kept (ticked_rule (timers_treated t).listener (timers_treated t) refl).adds (slots_errands (λ which. has_come t.time (moment_of (moments_of t) which)) slots 900 t (omega arith) (timed_mid (sight s) t.time k) (omega arith) (timed_errands (sight s) t.time h))

-- SIGNALS

signal_errands : (word : SignalWord) (s : LinkState) → Errands (sight s) → Errands (sight (signal_marked word s))
signal_errands word s h = record { dial = h.dial; waits = h.waits; reading = h.reading; writing = h.writing; part = h.part; over = h.over }

hup_errands : (busy holds : Bool) (s : LinkState) → is_some (hold_by (doing_in s.log.past)) ≡ holds → Errands (sight s) → Errands (sight (hung_up_by busy holds s))
hup_errands true holds s e h = errands_kept (ended_rule (signalled 1) (signal_marked Hup s)).adds (signal_errands Hup s h)
hup_errands false true s e h =
    answer_errands (dial_says call.Hup (signal_marked Hup s)) (signal_marked Hup s) (signal_errands Hup s h) (holds_owed (doing_in s.log.past) (holding_key (doing_in s.log.past) e)).1
hup_errands false false s e h = h

stopped_errands : (b : Bool) (word : SignalWord) (s : LinkState) → Mid 900 960 (sight s) → Errands (sight s) → Errands (sight (stopped_by b word s))
stopped_errands true word s k h = h
stopped_errands false word s k h =
    let t : LinkState = signal_marked word s in
    let k1 : Mid 901 (since_in s.log.past + 1 + owed_in t.log.past) (sight t) = signal_mid word s (since_in s.log.past + 1 + owed_in t.log.past) k (λ over. omega arith) in
    errands_kept (ended_rule (signalled (signal_number word)) (dial_answered (dial_says call.Stop t) t)).adds (stop_errands t k1 (signal_errands word s h))

signalled_errands : (word : SignalWord) (s : LinkState) → Mid 900 960 (sight s) → Errands (sight s) → Errands (sight (signal_taken word s))
unfolding signal_taken
signalled_errands Hup s k h = hup_errands (is_busy s) (is_some (hold_by (control s).doing)) s refl h
signalled_errands Int s k h = stopped_errands ((control s).stopped || is_some (status_by (control s).doing)) Int s k h
signalled_errands Term s k h = stopped_errands ((control s).stopped || is_some (status_by (control s).doing)) Term s k h
signalled_errands Usr1 s k h = h
signalled_errands Usr2 s k h = h

-- POSTS

posted_errands : (post : Post) (s : LinkState) → names_present (stay_of post) (control s).stay ≡ true → Mid 900 960 (sight s) → Errands (sight s) → Errands (sight (post_taken post s))
unfolding post_taken
posted_errands (Member stay unit live) s is k h = errands_kept (made_rule stay unit live s (present_stay stay (stay_in s.log.past) is)).adds h
posted_errands (Refused stay reason) s is k h =
    errands_kept (ended_rule (join_refused reason) (record s { log = record s.log { past = refused_mark s.time reason stay ∷ s.log.past } })).adds (errands_kept (refused_rule stay reason s (present_stay stay (stay_in s.log.past) is)).adds h)
posted_errands (Close stay unit why elapsed live) s is k h =
    errands_kept (ended_rule (closed_by why) (made_member stay unit live s)).adds (errands_kept (made_rule stay unit live s (present_stay stay (stay_in s.log.past) is)).adds h)
posted_errands (Send protocol information) s is k h = errands_kept (sent_in_rule (control s).stay protocol information s).adds h
posted_errands (Reject protocol information) s is k h = errands_kept (rejected_in_rule (control s).stay protocol information s).adds h
posted_errands Wake s is k h = woken_errands s k h

-- A SCRIPT ENDS

job_errands : (answer : ScriptEnd) (s : LinkState) → Errands (sight s) → Errands (sight (job_ended answer s))
job_errands answer s h =
    let p : List Mark = ended_mark s.time answer (ends_in (said_in s.log.past) + 1) ∷ s.log.past in
    let doing : doing_in (due_marks s.time p ++ p) ≡ doing_in s.log.past = due_same doing_in s.time p (λ up n. refl) in
    let why : cause_in (due_marks s.time p ++ p) ≡ cause_in s.log.past = due_same cause_in s.time p (λ up n. refl) in
    record {
      dial = λ there. ap is_dialling doing ∙ h.dial there;
      waits = λ dials back. ap is_none why ∙ h.waits (ap is_dialling (sym doing) ∙ dials) back;
      reading = ap is_with_line doing ∙ h.reading;
      writing = ap is_with_line doing ∙ h.writing;
      part = ap is_with_line doing ∙ h.part;
      over = ap is_just_over doing ∙ h.over;
    }

-- EVENTS

happened_errands : (event : Event) (s : LinkState) → is_present event s ≡ true → is_nothing event s ≡ false → Mid 900 960 (sight s) → Errands (sight s) → Errands (sight (happened event s))
happened_errands Begin s is first k h = answer_errands (dial_says call.Start s) s h (new_owed (doing_in s.log.past) (not_true (is_new (doing_in s.log.past)) first)).1
happened_errands (Dialled link session failed came) s is first k h = dialled_errands came s h
happened_errands (Bytes link session offset octets) s is first k h = octets_errands octets (record s { taken = raised s.taken (length octets) }) h
happened_errands (LineOver link session how) s is first k h =
    read_errands how (record s { reading = Waiting }) (reading_in (sight s) (and_one (is_out s.reading) (of_session link session s) (and_one (is_reading_out link session s) (may_come_back how s) is)) h)
happened_errands (Flushed link session how) s is first k h = sent_errands how (record s { writing = Waiting }) (writing_in (sight s) (and_one (is_out s.writing) (of_session link session s) is) h)
happened_errands (Tick moment) s is first k h = tick_errands moment s k h
happened_errands (Signal word) s is first k h = signalled_errands word s k h
happened_errands (FromTable post) s is first k h = posted_errands post s is k h
happened_errands (HookOver target job not_started answer) s is first k h = job_errands answer s h

-- THE END OF EACH STEP

record OnTime (s : LinkState) : Type 0 where
  pub errands : Errands (sight s)
  pub on : is_over s ≡ false

over_if_errands : (b : Bool) (s : LinkState) → is_over s ≡ b → Errands (sight s) → OnTime (over_if b s)
over_if_errands false s e h = record { errands = h; on = e }
over_if_errands true s e h =
    let t : LinkState = over_marked s in
    let rest = and_two (is_some (cause_in s.log.past)) _ (and_two (is_lasting s) _ e) in
    let back : is_absent s.dial ≡ true = and_one (is_absent s.dial) _ (and_two (not (wants_line s)) _ rest) in
    let end = end_by s.config.line (control s).was_live (control s).cause in
    let answer = dial_says (call.SessionOver end) t in
    record {
      errands = told_errands answer t (end_tells (dial_policy s.config) (dial_so_far t).stopped (failures_with (call.SessionOver end) (dial_so_far t).failures) end (room_of t.log)) (record { dial = back; reading = refl; writing = refl; part = refl });
      on = answered_on answer s;
    }

over_errands : (s : LinkState) → Errands (sight s) → OnTime (session_over s)
unfolding session_over
over_errands s h = over_if_errands (is_over s) s refl h

end_errands : (s : LinkState) → Errands (sight s) → OnTime (at_end s)
end_errands s h = over_errands (looked_after s) (errands_kept (looked_rule s).adds h)

unless_errands : (b : Bool) (event : Event) (s : LinkState) → is_nothing event s ≡ b → is_present event s ≡ true → Mid 900 960 (sight s) → OnTime s → OnTime (after_unless b event s)
unless_errands true event s e is k h = h
unless_errands false event s e is k h = end_errands (happened event s) (happened_errands event s is e k h.errands)

after_errands : (event : Event) (s : LinkState) → is_present event s ≡ true → Mid 900 960 (sight s) → OnTime s → OnTime (after event s)
unfolding after
after_errands event s is k h = unless_errands (is_nothing event s) event s refl is k h

-- WHAT THE LOG TELLS BETWEEN TWO STEPS

absent_not_out : (e : Errand) → is_absent e ≡ true → is_out e ≡ false
absent_not_out Absent e = refl
absent_not_out Waiting e = absurd (false≢true e)
absent_not_out Out e = absurd (false≢true e)

dialling_no_line : (d : Doing) → is_dialling d ≡ true → is_with_line d ≡ false
dialling_no_line New e = refl
dialling_no_line Dials e = refl
dialling_no_line HasLine e = absurd (false≢true e)
dialling_no_line IsOver e = refl
dialling_no_line (Holds until) e = refl
dialling_no_line Waits e = refl
dialling_no_line (HasFinished status) e = refl

absent_of : (b c : Bool) → c ≡ not b → c ≡ false → b ≡ true
absent_of true c e f = refl
absent_of false c e f = absurd (false≢true (sym f ∙ e))

some_of : {A : Type 0} (o : Option A) → is_none o ≡ false → is_some o ≡ true
some_of None e = sym e
some_of (Some x) e = refl

all_six : (a b c d e f : Bool) → a ≡ true → b ≡ true → c ≡ true → d ≡ true → e ≡ true → f ≡ true → (a && (b && (c && (d && (e && f))))) ≡ true
all_six a b c d e f ha hb hc hd he hf = rw (ha, hb, hc, hd, he, hf) refl

wants_none : (lasts there rest : Bool) → there ≡ true → (lasts && (not there && rest)) ≡ false
wants_none true there rest e = rw e refl
wants_none false there rest e = refl

should_be_over : (s : LinkState) → Errands (sight s) → is_dialling (doing_in s.log.past) ≡ true → is_absent s.dial ≡ true → is_over s ≡ true
should_be_over s h dials back =
    let none : is_with_line (doing_in s.log.past) ≡ false = dialling_no_line (doing_in s.log.past) dials in
    let reads : is_absent s.reading ≡ true = absent_of (is_absent s.reading) (is_with_line (doing_in s.log.past)) h.reading none in
    let writes : is_absent s.writing ≡ true = absent_of (is_absent s.writing) (is_with_line (doing_in s.log.past)) h.writing none in
    all_six (is_lasting s) (is_some (cause_in s.log.past)) (not (wants_line s)) (is_absent s.dial) (not (is_out s.reading)) (not (is_out s.writing))
    (dialling_lasts (doing_in s.log.past) dials) (some_of (cause_in s.log.past) (h.waits dials back)) (ap not (wants_none (is_lasting s) (is_absent s.reading) _ reads)) back
    (ap not (absent_not_out s.reading reads)) (ap not (absent_not_out s.writing writes))

dial_exact : (s : LinkState) (dials back : Bool) → is_dialling (doing_in s.log.past) ≡ dials → is_absent s.dial ≡ back → OnTime s → dials ≡ not back
dial_exact s true true e f h = absurd (false≢true (sym h.on ∙ should_be_over s h.errands e f))
dial_exact s true false e f h = refl
dial_exact s false true e f h = refl
dial_exact s false false e f h = sym (sym (h.errands.dial f) ∙ e)

not_over : (d : Doing) → is_just_over d ≡ false → d ≢ IsOver
not_over d e f = false≢true (sym e ∙ ap is_just_over f)

stand_of : (s : LinkState) → OnTime s → ErrandsStand s
stand_of s h = record {
  dial = dial_exact s (is_dialling (doing_in s.log.past)) (is_absent s.dial) refl refl h;
  reading = h.errands.reading;
  writing = h.errands.writing;
  part = h.errands.part;
  on = h.on;
  not_over = not_over (doing_in s.log.past) h.errands.over;
}

just_over : (d : Doing) → d ≢ IsOver → is_just_over d ≡ false
just_over New e = refl
just_over Dials e = refl
just_over HasLine e = refl
just_over IsOver e = absurd (e refl)
just_over (Holds until) e = refl
just_over Waits e = refl
just_over (HasFinished status) e = refl

on_time : (s : LinkState) → ErrandsStand s → OnTime s
on_time s h = record {
  errands = record {
    dial = λ there. h.dial ∙ ap not there;
    waits = λ dials back. absurd (false≢true (sym (ap not back) ∙ sym h.dial ∙ dials));
    reading = h.reading;
    writing = h.writing;
    part = h.part;
    over = just_over (doing_in s.log.past) h.not_over;
  };
  on = h.on;
}

pub each_event_tells : (event : Event) (s : LinkState) → is_present event s ≡ true → BetweenSteps s → ErrandsStand s → ErrandsStand (after event s)
each_event_tells event s is k h = stand_of (after event s) (after_errands event s is (mid_of s k.stands k.budget) (on_time s h))

by_present : (b : Bool) (event : Event) (s : LinkState) → is_present event s ≡ b → BetweenSteps s → ErrandsStand s → ErrandsStand (after_if b event s)
by_present true event s e k h = each_event_tells event s e k h
by_present false event s e k h = h

pub each_step_tells : (event : Event) (old new : LinkState) (taken : Bool) → LinkPart old event new taken → BetweenSteps old → ErrandsStand old → ErrandsStand new
each_step_tells event old new taken part k h = subst ErrandsStand (sym part.left) (by_present taken event old (sym part.told) k h)

pub new_tells : (id seed limit : ℕ) (config : LinkValues) (wish : LcpWish) (secrets : SecretsPair) → ErrandsStand (new_link id config wish secrets seed limit)
new_tells id seed limit config wish secrets = record { dial = refl; reading = refl; writing = refl; part = refl; on = refl; not_over = not_over New refl }
