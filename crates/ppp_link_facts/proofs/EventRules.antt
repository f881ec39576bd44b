-- Each event keeps the budget.
use Rattle.std.proofs.Common.{◌≡◌, ℕ, ◌+◌, ◌≤◌, Bool, true, false, cond, Option, None, Some, List, [], ◌∷◌, length, refl, ap, sym, ◌∙◌, arith}
use Rattle.std.specs.Prelude.{◌==◌, ◌&&◌, ◌||◌, not, is_none, is_some, filter}
use Rattle.std.proofs.lemmas.Bool.{false≢true}
use Rattle.ppp_auth.specs.Setting.{waits}
use Rattle.ppp_base.specs.declared.posts.Post.{Post}
use Rattle.ppp_base.specs.declared.posts.Post.TheVariants.{Member, Refused, Close, Send, Reject, Wake}
use Rattle.ppp_base.specs.declared.posts.Refusal.{Refusal}
use Rattle.ppp_base.specs.declared.signal_word.SignalWord.{SignalWord}
use Rattle.ppp_base.specs.declared.signal_word.SignalWord.TheVariants.{Hup, Int, Term, Usr1, Usr2}
use Rattle.ppp_chat.specs.Event.{tick_at}
use Rattle.ppp_chat.specs.Script.{ChatScript}
use Rattle.ppp_control.specs.Rules.{ticks}
use Rattle.ppp_dial.specs.declared.call.CallKind.TheVariants as call
use Rattle.ppp_dial.specs.LookingBack.{was_begun}
use Rattle.ppp_hooks.specs.HookPast.{open_in}
use Rattle.ppp_lcp.specs.declared.wish.LcpWish.{LcpWish}
use Rattle.ppp_mark.specs.declared.mark.Mark.{Mark}
use Rattle.ppp_mark.specs.Marks.{live_mark, member_mark, refused_mark, signal_number}
use Rattle.ppp_mark.specs.Scripts.{said_in}
use Rattle.ppp_outside.specs.Counts.{raised}
use Rattle.ppp_timer.specs.Due.{has_come, moment_of, slots}
use Rattle.ppp_timer.specs.declared.slot.Slot.{Slot}
use Rattle.ppp_timer.specs.declared.slot.Slot.TheVariants as slot
use Rattle.ppp_link_rules.specs.declared.cause.Cause.{Cause}
use Rattle.ppp_link_rules.specs.declared.errand.Errand.TheVariants.{Absent, Waiting, Out}
use Rattle.ppp_link_rules.specs.declared.errand.Errand.{Errand}
use Rattle.ppp_link_rules.specs.declared.errand.ReadEnd.{ReadEnd}
use Rattle.ppp_link_rules.specs.declared.errand.ReadEnd.TheVariants as read
use Rattle.ppp_link_rules.specs.declared.errand.SentEnd.{SentEnd}
use Rattle.ppp_link_rules.specs.declared.errand.SentEnd.TheVariants as sent
use Rattle.ppp_link_rules.specs.CauseStatus.{closed_by, dial_failed, join_refused, line_ended, read_failed, signalled, write_failed}
use Rattle.ppp_link_rules.specs.Dialling.{dial_says, end_by}
use Rattle.ppp_link_rules.specs.Ending.{ended_by}
use Rattle.ppp_link_rules.specs.Errands.{is_session as of_session, is_target}
use Rattle.ppp_link_rules.specs.Hearing.{looked_after, octet_taken, octets_taken, talk_begun_by}
use Rattle.ppp_link_rules.specs.LinkEvent.{Event, Begin, Dialled, Bytes, LineOver, Flushed, Tick, Signal, FromTable, HookOver}
use Rattle.ppp_link_rules.specs.LinkPart.{after, after_unless, happened, is_nothing, is_present, reading_back, writing_back}
use Rattle.ppp_link_rules.specs.LinkState.{LcpPart, LinkState, control, is_absent, is_busy, is_lasting, is_open, is_out, state_in}
use Rattle.ppp_link_rules.specs.Marks.{cause_in, doing_in, hold_by, is_new, is_session, lcp_open_in, since_in, status_by, stay_in, stopped_in}
use Rattle.ppp_link_rules.specs.Posts.{live_if, made_member, member_if, member_marked, names_present, post_taken, rejected_in, sent_in, stay_of}
use Rattle.ppp_link_rules.specs.Sessions.{at_end, dial_answered, dial_come, is_over, line_come, line_come_if, line_lost, over_if, over_marked, session_over, with_dial_back, with_failure, with_line}
use Rattle.ppp_link_rules.specs.Signals.{hung_up_by, signal_marked, signal_taken, stopped_by, stopping}
use Rattle.ppp_link_rules.specs.Ticking.{moments_of, slots_treated, ticked, timers_treated, treated as slot_treated, treated_if, with_time}
use Rattle.ppp_link_facts.specs.Budget.{doing_owed, owed_in, stop_owed}
use Rattle.ppp_link_facts.proofs.AuthRules.{phase_rule}
use Rattle.ppp_link_facts.proofs.Budgets.{Mid, mid_few, mid_idle, mid_loud, mid_more, mid_rule}
use Rattle.ppp_link_facts.proofs.DialFacts.{ended_mid, held_mid, hung_up_mid, or_false, session_begun, started_mid, stopped_mid, woken_mid}
use Rattle.ppp_link_facts.proofs.EndRules.{ended_rule, frame_same}
use Rattle.ppp_link_facts.proofs.HearRules.{FewMarks, chat_loud, chatting, looked_few, looked_rule, lost_rule, octet_few, octet_rule, opened_loud, ticked_rule}
use Rattle.ppp_link_facts.proofs.LcpFacts.{shut_not_open}
use Rattle.ppp_link_facts.proofs.LcpRules.{called_rule, rejected_rule}
use Rattle.ppp_link_facts.proofs.ScriptRules.{job_mid}
use Rattle.ppp_link_facts.proofs.Sight.{Adds, Idle, Rule, Sight, busy_in, last_told, rule_more, rule_none, rule_same, sight, then}

pub and_one : (a b : Bool) → (a && b) ≡ true → a ≡ true
and_one true b e = refl
and_one false b e = e

pub and_two : (a b : Bool) → (a && b) ≡ true → b ≡ true
and_two true b e = e
and_two false b e = absurd (false≢true e)

-- A cause ends the session.
pub ended_keeps : {m : ℕ} (c : Cause) (s : LinkState) → Mid m 960 (sight s) → m + 5 ≤ 952 → Mid (m + 5) 960 (sight (ended_by c s))
ended_keeps c s h le = mid_rule (ended_rule c s) h le

-- THE END OF EACH STEP

pub looked_mid : {m : ℕ} (s : LinkState) → Mid m 960 (sight s) → m + 6 ≤ 952 → Mid 900 960 (sight (looked_after s))
looked_mid s h le = mid_few (mid_rule (looked_rule s) h le) (looked_few s)

pub none_not : {A : Type 0} (o : Option A) → is_some o ≡ true → is_none o ≡ false
none_not None e = sym e
none_not (Some x) e = refl

pub and_right : (a b : Bool) → b ≡ false → (a && b) ≡ false
and_right true b e = e
and_right false b e = refl

pub over_mid_marked : {m : ℕ} (s : LinkState) → Mid m 960 (sight s) → is_lasting s ≡ true → busy_in (sight s) ≡ false → Mid m 960 (sight (over_marked s))
over_mid_marked s h lasts over =
    let i : Idle (sight s) = mid_idle h over in
    let p : (was_begun (last_told s.log.past) ≡ true) × (5 ≤ doing_owed (doing_in s.log.past)) = session_begun (doing_in s.log.past) (last_told s.log.past) h.said lasts in
    record {
      sits = record { phase = λ e. refl; stay = λ e. i.stay; auth = λ e. i.auth };
      shut = λ e. (refl, refl);
      ends = h.ends;
      one = h.one;
      job = h.job;
      dial = λ e. refl;
      said = p.0;
      lcp = h.lcp ∙ shut_not_open (sight s).state i.shut;
      free = omega (arith, h.free);
      few = λ goes. absurd (false≢true goes);
      owes = λ e. omega (arith, h.owes over, p.1);
    }

over_if_mid : (b : Bool) (s : LinkState) → is_over s ≡ b → Mid 900 960 (sight s) → Mid 900 960 (sight (over_if b s))
over_if_mid false s e h = h
over_if_mid true s e h =
    let lasts : is_lasting s ≡ true = and_one (is_lasting s) _ e in
    let some : is_some (cause_in s.log.past) ≡ true = and_one (is_some (cause_in s.log.past)) _ (and_two (is_lasting s) _ e) in
    let over : busy_in (sight s) ≡ false = and_right (is_session (doing_in s.log.past)) (is_none (cause_in s.log.past)) (none_not (cause_in s.log.past) some) in
    let h1 : Mid 900 960 (sight (over_marked s)) = over_mid_marked s h lasts over in
    ended_mid (end_by s.config.line (control s).was_live (control s).cause) (over_marked s) h1 (omega arith) refl (omega arith)

pub over_mid : (s : LinkState) → Mid 900 960 (sight s) → Mid 900 960 (sight (session_over s))
unfolding session_over
over_mid s h = over_if_mid (is_over s) s refl h

pub end_mid : {m : ℕ} (s : LinkState) → Mid m 960 (sight s) → m + 6 ≤ 952 → Mid 900 960 (sight (at_end s))
end_mid s h le = over_mid (looked_after s) (looked_mid s h le)

-- OCTETS

pub octet_mid : (octet : ℕ) (s : LinkState) → Mid 926 960 (sight s) → FewMarks s → Mid 926 960 (sight (octet_taken octet s))
octet_mid octet s h f = mid_few (mid_rule (octet_rule octet s) h (omega arith)) (octet_few octet s f).all

pub octets_mid : (octets : List ℕ) (s : LinkState) → Mid 926 960 (sight s) → FewMarks s → Mid 926 960 (sight (octets_taken octets s))
octets_mid [] s h f = h
octets_mid (octet ∷ octets) s h f = octets_mid octets (octet_taken octet s) (octet_mid octet s h f) (octet_few octet s f)

pub octets_few : (octets : List ℕ) (s : LinkState) → FewMarks s → FewMarks (octets_taken octets s)
octets_few [] s f = f
octets_few (octet ∷ octets) s f = octets_few octets (octet_taken octet s) (octet_few octet s f)

pub few_of : (s : LinkState) → Mid 900 960 (sight s) → FewMarks s
few_of s h = record { all = λ goes. omega (arith, h.few goes); talks = λ talks goes. h.few goes }

-- THE LINE

-- the dial is back
pub back_mid : {m t : ℕ} (x : Sight) → Mid m t x → Mid m t (record x { dial = Absent })
back_mid x h = record {
  sits = record { phase = h.sits.phase; stay = h.sits.stay; auth = h.sits.auth };
  shut = h.shut;
  ends = h.ends;
  one = h.one;
  job = h.job;
  dial = λ e. absurd (false≢true (sym e));
  said = h.said;
  lcp = h.lcp;
  free = h.free;
  few = h.few;
  owes = h.owes;
}

none_state : (wish : LcpWish) (o : Option LcpPart) → is_some o ≡ false → (state_in wish o == 9) ≡ false
none_state wish None e = refl
none_state wish (Some part) e = absurd (false≢true (sym e))

-- its line comes, in a session that has no LCP part
pub line_mid : {m : ℕ} (s : LinkState) → Mid m 960 (sight s) → busy_in (sight s) ≡ true → is_some s.lcp ≡ false → is_absent s.dial ≡ true → Mid (m + 1) 960 (sight (with_line s))
line_mid s h goes none back =
    let closed : is_open s ≡ false = none_state s.wish s.lcp none in
    let lasts : is_lasting s ≡ true = and_one (is_session (doing_in s.log.past)) (is_none (cause_in s.log.past)) goes in
    let free : is_none (cause_in s.log.past) ≡ true = and_two (is_session (doing_in s.log.past)) (is_none (cause_in s.log.past)) goes in
    record {
      sits = record { phase = λ e. h.sits.phase closed; stay = λ e. h.sits.stay closed; auth = λ e. h.sits.auth closed };
      shut = λ over. absurd (false≢true (sym over ∙ free));
      ends = h.ends;
      one = h.one;
      job = h.job;
      dial = λ e. absurd (false≢true (sym e ∙ back));
      said = (session_begun (doing_in s.log.past) (last_told s.log.past) h.said lasts).0;
      lcp = h.lcp ∙ closed;
      free = omega (arith, h.free);
      few = λ e. omega (arith, h.few goes);
      owes = λ over. absurd (false≢true (sym over ∙ free));
    }

line_goes : (s : LinkState) → busy_in (sight s) ≡ true → busy_in (sight (with_line s)) ≡ true
line_goes s goes = and_two (is_session (doing_in s.log.past)) (is_none (cause_in s.log.past)) goes

-- where a chat begins, in a session that goes on
chatting_mid : {m : ℕ} (x : Sight) (talks : Bool) → busy_in x ≡ true → Mid m 960 x → Mid m 960 (record x { talks = talks })
chatting_mid x talks goes h = record {
  sits = record { phase = h.sits.phase; stay = h.sits.stay; auth = h.sits.auth };
  shut = λ over. absurd (false≢true (sym over ∙ goes));
  ends = h.ends;
  one = h.one;
  job = h.job;
  dial = h.dial;
  said = h.said;
  lcp = h.lcp;
  free = h.free;
  few = h.few;
  owes = h.owes;
}

talk_mid : {m : ℕ} (o : Option ChatScript) (s : LinkState) → busy_in (sight s) ≡ true → Mid m 960 (sight s) → m + 26 ≤ 952 → Mid (m + 26) 960 (sight (talk_begun_by o s))
talk_mid None s goes h le = mid_loud (opened_loud s) goes h le
talk_mid (Some script) s goes h le =
    let t : LinkState = chatting (tick_at s.time) [] s in
    mid_loud {x = sight t} (chat_loud (tick_at s.time) [] s) goes (chatting_mid (sight s) true goes h) le

come_mid : (s : LinkState) → Mid 900 960 (sight s) → busy_in (sight s) ≡ true → is_some s.lcp ≡ false → is_absent s.dial ≡ true → Mid 927 960 (sight (line_come s))
unfolding line_come
come_mid s h goes none back = talk_mid s.config.script (with_line s) (line_goes s goes) (line_mid s h goes none back) (omega arith)

come_if_mid : (b : Bool) (s : LinkState) → is_busy s ≡ b → Mid 900 960 (sight s) → is_some s.lcp ≡ false → is_absent s.dial ≡ true → Mid 927 960 (sight (line_come_if b s))
come_if_mid false s e h none back = mid_more (omega arith) h
come_if_mid true s e h none back = come_mid s h e none back

pub dialled_mid : (came : Bool) (s : LinkState) → Mid 900 960 (sight s) → is_absent s.dial ≡ false → Mid 927 960 (sight (dial_come came s))
dialled_mid true s h there = come_if_mid (is_busy s) (with_dial_back s) refl (back_mid (sight s) h) (h.dial there) refl
dialled_mid false s h there = mid_more (omega arith) (ended_keeps dial_failed (with_failure s) (back_mid (sight s) h) (omega arith))

pub lost_mid : {m : ℕ} (c : Cause) (s : LinkState) → Mid m 960 (sight s) → m + 18 ≤ 952 → Mid (m + 18) 960 (sight (line_lost c s))
lost_mid c s h le = mid_rule (lost_rule c s) h le

read_mid : (how : ReadEnd) (s : LinkState) → Mid 900 960 (sight s) → Mid 918 960 (sight (reading_back how s))
read_mid read.End s h = lost_mid line_ended s h (omega arith)
read_mid read.Failed s h = lost_mid read_failed s h (omega arith)
read_mid read.Left s h = mid_more (omega arith) h

sent_mid : (how : SentEnd) (s : LinkState) → Mid 900 960 (sight s) → Mid 918 960 (sight (writing_back how s))
sent_mid sent.All s h = mid_more (omega arith) h
sent_mid (sent.Failed count) s h = lost_mid write_failed s h (omega arith)

-- errands that come back tell nothing of the marks
pub errands_mid : {m t : ℕ} (x : Sight) (first second : Errand) → Mid m t x → Mid m t (record x { reading = first; writing = second })
errands_mid x first second h = record {
  sits = record { phase = h.sits.phase; stay = h.sits.stay; auth = h.sits.auth };
  shut = h.shut;
  ends = h.ends;
  one = h.one;
  job = h.job;
  dial = h.dial;
  said = h.said;
  lcp = h.lcp;
  free = h.free;
  few = h.few;
  owes = h.owes;
}

-- nor does the time
pub timed_mid : {m t : ℕ} (x : Sight) (moment : ℕ) → Mid m t x → Mid m t (record x { time = moment })
timed_mid x moment h = record {
  sits = record { phase = h.sits.phase; stay = h.sits.stay; auth = h.sits.auth };
  shut = h.shut;
  ends = h.ends;
  one = h.one;
  job = h.job;
  dial = h.dial;
  said = h.said;
  lcp = h.lcp;
  free = h.free;
  few = h.few;
  owes = h.owes;
}

-- TICKS

abbrev pub cost : Slot → ℕ
cost slot.LcpRestart = 13
cost slot.AuthRestart = 7
cost slot.AuthEnd = 0
cost slot.Echo = 0
cost slot.Hold = 0
cost slot.IpcpRestart = 0
cost slot.Idle = 0
cost slot.Connect = 0

abbrev pub costs : List Slot → ℕ
costs [] = 0
costs (one ∷ all) = cost one + costs all

slot_mid : {m : ℕ} (which : Slot) (s : LinkState) → 2 ≤ m → Mid m 960 (sight s) → m + cost which ≤ 952 → Mid (m + cost which) 960 (sight (slot_treated which s))
slot_mid slot.LcpRestart s two h le = mid_rule (called_rule ticks s refl) h le
slot_mid slot.AuthRestart s two h le = mid_rule (phase_rule waits s) h le
slot_mid slot.AuthEnd s two h le = mid_more (omega arith) h
slot_mid slot.Echo s two h le = mid_more (omega arith) h
slot_mid slot.Hold s two h le = mid_more (omega arith) (held_mid s h two)
slot_mid slot.IpcpRestart s two h le = mid_more (omega arith) h
slot_mid slot.Idle s two h le = mid_more (omega arith) h
slot_mid slot.Connect s two h le = mid_more (omega arith) h

pub slot_if_mid : {m : ℕ} (b : Bool) (which : Slot) (s : LinkState) → 2 ≤ m → Mid m 960 (sight s) → m + cost which ≤ 952 → Mid (m + cost which) 960 (sight (treated_if b which s))
slot_if_mid true which s two h le = slot_mid which s two h le
slot_if_mid false which s two h le = mid_more (omega arith) h

-- with the slots behind one that is due or isn't
slots_by : (b : Bool) (one : Slot) (due : List Slot) (rest m : ℕ) (s : LinkState) → 2 ≤ m → Mid m 960 (sight s) → m + (cost one + rest) ≤ 952
    → ((n : ℕ) (t : LinkState) → 2 ≤ n → Mid n 960 (sight t) → n + rest ≤ 952 → Mid (n + rest) 960 (sight (slots_treated due t))) → Mid (m + (cost one + rest)) 960 (sight (slots_treated (cond b (one ∷ due) due) s))
slots_by false one due rest m s two h le f = mid_more (omega arith) (f m s two h (omega (arith, le)))
slots_by true one due rest m s two h le f =
    let t : LinkState = treated_if (is_some (moment_of (moments_of s) one)) one s in
    mid_more (omega arith) (f (m + cost one) t (omega (arith, two)) (slot_if_mid (is_some (moment_of (moments_of s) one)) one s two h (omega (arith, le))) (omega (arith, le)))

pub slots_mid : (due : Slot → Bool) (all : List Slot) (m : ℕ) (s : LinkState) → 2 ≤ m → Mid m 960 (sight s) → m + costs all ≤ 952 → Mid (m + costs all) 960 (sight (slots_treated (filter due all) s))
slots_mid due [] m s two h le = mid_more (omega arith) h
slots_mid due (one ∷ all) m s two h le = slots_by (due one) one (filter due all) (costs all) m s two h le (λ n t two1 h1 le1. slots_mid due all n t two1 h1 le1)

pub tick_mid : (now : ℕ) (s : LinkState) → Mid 900 960 (sight s) → Mid 946 960 (sight (ticked now s))
unfolding ticked
tick_mid now s h =
    let t : LinkState = with_time now s in
    let h1 : Mid 920 960 (sight (timers_treated t)) = slots_mid (λ which. has_come t.time (moment_of (moments_of t) which)) slots 900 t (omega arith) (timed_mid (sight s) t.time h) (omega arith) in
    mid_rule (ticked_rule (timers_treated t).listener (timers_treated t) refl) h1 (omega arith)

-- SIGNALS

pub signal_mid : {m : ℕ} (word : SignalWord) (s : LinkState) (total : ℕ) → Mid m 960 (sight s) → (busy_in (sight s) ≡ false → since_in s.log.past + 1 + owed_in (signal_marked word s).log.past ≤ total)
    → Mid (m + 1) total (sight (signal_marked word s))
signal_mid word s total h owes = record {
  sits = record { phase = h.sits.phase; stay = h.sits.stay; auth = h.sits.auth };
  shut = h.shut;
  ends = h.ends;
  one = h.one;
  job = h.job;
  dial = h.dial;
  said = h.said;
  lcp = h.lcp;
  free = omega (arith, h.free);
  few = λ goes. omega (arith, h.few goes);
  owes = λ over. owes over;
}

-- HUP: of a session that goes on, or of a hold
hup_mid : (busy holds : Bool) (s : LinkState) → is_busy s ≡ busy → is_some (hold_by (doing_in s.log.past)) ≡ holds → Mid 900 960 (sight s) → Mid 906 960 (sight (hung_up_by busy holds s))
hup_mid true holds s e f h =
    ended_keeps (signalled 1) (signal_marked Hup s) (signal_mid Hup s 960 h (λ over. absurd (false≢true (sym over ∙ e)))) (omega arith)
hup_mid false true s e f h =
    mid_more (omega arith) (hung_up_mid (signal_marked Hup s) (signal_mid Hup s 961 h (λ over. omega (arith, h.owes over))) (omega arith) f)
hup_mid false false s e f h = mid_more (omega arith) h

-- INT and TERM: the first one
stops_mid : (n : ℕ) (word : SignalWord) (s : LinkState) → Mid 901 960 (sight (signal_marked word s)) → Mid 906 960 (sight (stopping word (signal_marked word s)))
stops_mid n word s h =
    let t : LinkState = signal_marked word s in
    ended_keeps (signalled (signal_number word)) (dial_answered (dial_says call.Stop t) t) (stopped_mid t h) (omega arith)

not_stopped : (b : Bool) → b ≡ false → stop_owed b ≡ 1
not_stopped true e = absurd (false≢true (sym e))
not_stopped false e = refl

int_mid : (b : Bool) (s : LinkState) → ((control s).stopped || is_some (status_by (control s).doing)) ≡ b → Mid 900 960 (sight s) → Mid 906 960 (sight (stopped_by b Int s))
int_mid true s e h = mid_more (omega arith) h
int_mid false s e h =
    let one : stop_owed (stopped_in s.log.past) ≡ 1 = not_stopped (stopped_in s.log.past) (or_false (stopped_in s.log.past) (is_some (status_by (doing_in s.log.past))) e).0 in
    stops_mid 0 Int s (signal_mid Int s 960 h (λ over. omega (arith, h.owes over, one)))

term_mid : (b : Bool) (s : LinkState) → ((control s).stopped || is_some (status_by (control s).doing)) ≡ b → Mid 900 960 (sight s) → Mid 906 960 (sight (stopped_by b Term s))
term_mid true s e h = mid_more (omega arith) h
term_mid false s e h =
    let one : stop_owed (stopped_in s.log.past) ≡ 1 = not_stopped (stopped_in s.log.past) (or_false (stopped_in s.log.past) (is_some (status_by (doing_in s.log.past))) e).0 in
    stops_mid 0 Term s (signal_mid Term s 960 h (λ over. omega (arith, h.owes over, one)))

pub signalled_mid : (word : SignalWord) (s : LinkState) → Mid 900 960 (sight s) → Mid 906 960 (sight (signal_taken word s))
unfolding signal_taken
signalled_mid Hup s h = hup_mid (is_busy s) (is_some (hold_by (control s).doing)) s refl refl h
signalled_mid Int s h = int_mid ((control s).stopped || is_some (status_by (control s).doing)) s refl h
signalled_mid Term s h = term_mid ((control s).stopped || is_some (status_by (control s).doing)) s refl h
signalled_mid Usr1 s h = mid_more (omega arith) h
signalled_mid Usr2 s h = mid_more (omega arith) h

-- POSTS

-- a mark of the stay
stay_rule : (s : LinkState) (m : Mark) → Adds 1 (sight s) (sight (record s { log = record s.log { past = m ∷ s.log.past } })) → is_some (stay_in s.log.past) ≡ true
    → stay_in (m ∷ s.log.past) ≡ stay_in s.log.past → open_in (said_in (m ∷ s.log.past)) ≡ open_in (said_in s.log.past) → busy_in (sight (record s { log = record s.log { past = m ∷ s.log.past } })) ≡ busy_in (sight s)
    → lcp_open_in (m ∷ s.log.past) ≡ lcp_open_in s.log.past
    → Rule 1 (sight s) (sight (record s { log = record s.log { past = m ∷ s.log.past } }))
stay_rule s m a some stay opening busy lcp = record {
  adds = a;
  sits = λ h. record { phase = h.phase; stay = λ c. ap is_some stay ∙ h.stay c; auth = λ c. ap is_some opening ∙ h.auth c };
  ends = λ h goes over. absurd (false≢true (sym over ∙ busy ∙ goes));
  quiet = λ i. absurd (false≢true (sym i.stay ∙ some));
  opens = λ h. lcp ∙ h;
}

member_rule : (b : Bool) (unit stay : ℕ) (s : LinkState) → is_some (stay_in s.log.past) ≡ true → Rule 1 (sight s) (sight (member_if b unit stay s))
member_rule false unit stay s some = rule_more (omega arith) (rule_none (sight s))
member_rule true unit stay s some = stay_rule s (member_mark s.time unit stay) (record {
  limit = refl;
  few = omega arith;
  longer = omega arith;
  since = omega arith;
  doing = refl;
  told = refl;
  stopped = refl;
  ends = refl;
  starts = omega arith;
  one = λ e. e;
  caused = λ e. e;
  talks = λ e. e;
  lines = refl;
  dial = refl;
  reading = refl;
  writing = refl;
  job = refl;
  time = refl;
  config = refl;
  wish = refl;
}) some refl refl refl refl

member_some : (b : Bool) (unit stay : ℕ) (s : LinkState) → is_some (stay_in s.log.past) ≡ true → is_some (stay_in (member_if b unit stay s).log.past) ≡ true
member_some false unit stay s some = some
member_some true unit stay s some = some

live_rule : (b : Bool) (unit stay : ℕ) (s : LinkState) → is_some (stay_in s.log.past) ≡ true → Rule 1 (sight s) (sight (live_if b unit stay s))
live_rule false unit stay s some = rule_more (omega arith) (rule_none (sight s))
live_rule true unit stay s some = stay_rule s (live_mark s.time unit stay) (record {
  limit = refl;
  few = omega arith;
  longer = omega arith;
  since = omega arith;
  doing = refl;
  told = refl;
  stopped = refl;
  ends = refl;
  starts = omega arith;
  one = λ e. e;
  caused = λ e. e;
  talks = λ e. e;
  lines = refl;
  dial = refl;
  reading = refl;
  writing = refl;
  job = refl;
  time = refl;
  config = refl;
  wish = refl;
}) some refl refl refl refl

pub made_rule : (stay unit : ℕ) (live : Bool) (s : LinkState) → is_some (stay_in s.log.past) ≡ true → Rule 2 (sight s) (sight (made_member stay unit live s))
made_rule stay unit live s some =
    let t : LinkState = member_marked unit stay s in
    then {k = 1} {y = sight t} (member_rule (is_none (control s).unit) unit stay s some) (live_rule (live && not (control t).live) unit stay t (member_some (is_none (control s).unit) unit stay s some))

pub refused_rule : (stay : ℕ) (reason : Refusal) (s : LinkState) → is_some (stay_in s.log.past) ≡ true → Rule 1 (sight s) (sight (record s { log = record s.log { past = refused_mark s.time reason stay ∷ s.log.past } }))
refused_rule stay reason s some = stay_rule s (refused_mark s.time reason stay) (record {
  limit = refl;
  few = omega arith;
  longer = omega arith;
  since = omega arith;
  doing = refl;
  told = refl;
  stopped = refl;
  ends = refl;
  starts = omega arith;
  one = λ e. e;
  caused = λ e. e;
  talks = λ e. e;
  lines = refl;
  dial = refl;
  reading = refl;
  writing = refl;
  job = refl;
  time = refl;
  config = refl;
  wish = refl;
}) some refl refl refl refl

pub sent_in_rule : (o : Option ℕ) (protocol : ℕ) (information : List ℕ) (s : LinkState) → Rule 0 (sight s) (sight (sent_in o protocol information s))
sent_in_rule None protocol information s = rule_none (sight s)
sent_in_rule (Some stay) protocol information s = rule_same (frame_same protocol information s)

pub rejected_in_rule : (o : Option ℕ) (protocol : ℕ) (information : List ℕ) (s : LinkState) → Rule 13 (sight s) (sight (rejected_in o protocol information s))
rejected_in_rule None protocol information s = rule_more (omega arith) (rule_none (sight s))
rejected_in_rule (Some stay) protocol information s = rejected_rule protocol information s

pub present_stay : (stay : ℕ) (o : Option ℕ) → names_present (Some stay) o ≡ true → is_some o ≡ true
present_stay stay None e = e
present_stay stay (Some n) e = refl

pub posted_mid : (post : Post) (s : LinkState) → names_present (stay_of post) (control s).stay ≡ true → Mid 900 960 (sight s) → Mid 913 960 (sight (post_taken post s))
unfolding post_taken
posted_mid (Member stay unit live) s is h = mid_more (omega arith) (mid_rule (made_rule stay unit live s (present_stay stay (stay_in s.log.past) is)) h (omega arith))
posted_mid (Refused stay reason) s is h =
    mid_more (omega arith) (ended_keeps (join_refused reason) (record s { log = record s.log { past = refused_mark s.time reason stay ∷ s.log.past } }) (mid_rule (refused_rule stay reason s (present_stay stay (stay_in s.log.past) is)) h (omega arith)) (omega arith))
posted_mid (Close stay unit why elapsed live) s is h =
    mid_more (omega arith) (ended_keeps (closed_by why) (made_member stay unit live s) (mid_rule (made_rule stay unit live s (present_stay stay (stay_in s.log.past) is)) h (omega arith)) (omega arith))
posted_mid (Send protocol information) s is h = mid_more (omega arith) (mid_rule (sent_in_rule (control s).stay protocol information s) h (omega arith))
posted_mid (Reject protocol information) s is h = mid_rule (rejected_in_rule (control s).stay protocol information s) h (omega arith)
posted_mid Wake s is h = mid_more (omega arith) (woken_mid s h (omega arith))

-- EVENTS

pub out_there : (e : Errand) → is_out e ≡ true → is_absent e ≡ false
out_there Absent e = absurd (false≢true e)
out_there Waiting e = absurd (false≢true e)
out_there Out e = refl

pub not_true : (b : Bool) → not b ≡ false → b ≡ true
not_true true e = refl
not_true false e = sym e

pub happened_mid : (event : Event) (s : LinkState) → is_present event s ≡ true → is_nothing event s ≡ false → Mid 900 960 (sight s) → Mid 946 960 (sight (happened event s))
happened_mid Begin s is first h = mid_more (omega arith) (started_mid s h (omega arith) (not_true (is_new (doing_in s.log.past)) first))
happened_mid (Dialled link session failed came) s is first h = mid_more (omega arith) (dialled_mid came s h (out_there s.dial (and_one (is_out s.dial) (of_session link session s && (failed == s.failed_dials)) is)))
happened_mid (Bytes link session offset octets) s is first h =
    let t : LinkState = record s { taken = raised s.taken (length octets) } in
    mid_more (omega arith) (octets_mid octets t (mid_more (omega arith) h) (few_of t h))
happened_mid (LineOver link session how) s is first h = mid_more (omega arith) (read_mid how (record s { reading = Waiting }) (errands_mid (sight s) Waiting s.writing h))
happened_mid (Flushed link session how) s is first h = mid_more (omega arith) (sent_mid how (record s { writing = Waiting }) (errands_mid (sight s) s.reading Waiting h))
happened_mid (Tick now) s is first h = tick_mid now s h
happened_mid (Signal word) s is first h = mid_more (omega arith) (signalled_mid word s h)
happened_mid (FromTable post) s is first h = mid_more (omega arith) (posted_mid post s is h)
happened_mid (HookOver target job not_started answer) s is first h = mid_more (omega arith) (job_mid answer s h (omega arith) (and_one s.job_out (is_target target s.id && ((job == s.scripts.starts) && (not_started == s.scripts.not_started))) is))

unless_mid : (b : Bool) (event : Event) (s : LinkState) → is_nothing event s ≡ b → is_present event s ≡ true → Mid 900 960 (sight s) → Mid 900 960 (sight (after_unless b event s))
unless_mid true event s e is h = h
unless_mid false event s e is h = end_mid (happened event s) (happened_mid event s is e h) (omega arith)

pub after_mid : (event : Event) (s : LinkState) → is_present event s ≡ true → Mid 900 960 (sight s) → Mid 900 960 (sight (after event s))
unfolding after
after_mid event s is h = unless_mid (is_nothing event s) event s refl is h
