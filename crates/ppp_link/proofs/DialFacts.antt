-- Each event leaves a link's dial in step with what the link does, and changes its errands as their objects come and go.
use Rattle.std.proofs.Common.{arith, refl, ap, sym, subst, ◌∙◌, ◌≡◌, ℕ, ◌+◌, ◌-◌, Bool, true, false, if◌then◌else◌, not, ◌&&◌, ◌||◌, None, Some, List, [], ◌∷◌, is_some}
use Rattle.std.proofs.lemmas.Bool.{and_parts, false≢true, true≢false}
use Rattle.ppp_base.specs.declared.posts.Post.{Post}
use Rattle.ppp_base.specs.declared.posts.Post.TheVariants.{Member, Refused, Close, Send, Reject, Wake}
use Rattle.ppp_base.specs.declared.signal_word.SignalWord.{SignalWord}
use Rattle.ppp_base.specs.declared.signal_word.SignalWord.TheVariants.{Hup, Int, Term, Usr1, Usr2}
use Rattle.ppp_control.specs.Rules.{by_itself, goes_down}
use Rattle.ppp_dial.specs.declared.call.CallKind.TheVariants as call
use Rattle.ppp_dial.specs.declared.now.DialNow.{DialNow}
use Rattle.ppp_dial.specs.declared.now.DialNow.TheVariants as answer
use Rattle.ppp_dial.specs.Happened.{Happened}
use Rattle.ppp_dial.specs.LookingBack.{hold_since, is_nothing, last_in, nothing_yet, status_of, was_begun, was_to_wait}
use Rattle.ppp_hooks.specs.HookPast.{ends_in}
use Rattle.ppp_mark.specs.declared.mark.Mark.{Mark}
use Rattle.ppp_mark.specs.Marks.{ended_mark, refused_mark}
use Rattle.ppp_mark.specs.Scripts.{said_in}
use Rattle.ppp_option_words.specs.LinkValues.{LinkValues}
use Rattle.ppp_outside.specs.declared.line_words.LineWords.{LineWords}
use Rattle.ppp_outside.specs.declared.spawner.ScriptEnd.{ScriptEnd}
use Rattle.ppp_timer.specs.declared.slot.Slot.{Slot}
use Rattle.ppp_timer.specs.declared.slot.Slot.TheVariants as slot
use Rattle.ppp_timer.specs.Due.{due_slots, has_come, moment_of}
use Rattle.ppp_link_rules.specs.declared.cause.Cause.{Cause}
use Rattle.ppp_link_rules.specs.declared.errand.Errand.{Errand}
use Rattle.ppp_link_rules.specs.declared.errand.Errand.TheVariants.{Absent, Waiting, Out}
use Rattle.ppp_link_rules.specs.declared.errand.ReadEnd.{ReadEnd}
use Rattle.ppp_link_rules.specs.declared.errand.ReadEnd.TheVariants as read
use Rattle.ppp_link_rules.specs.declared.errand.SentEnd.{SentEnd}
use Rattle.ppp_link_rules.specs.declared.errand.SentEnd.TheVariants as sent
use Rattle.ppp_link_rules.specs.CauseStatus.{dial_failed, signalled}
use Rattle.ppp_link_rules.specs.Dialling.{dial_so_far, dialled_by, dialled_in, dial_says}
use Rattle.ppp_link_rules.specs.Ending.{first_caused, is_first}
use Rattle.ppp_link_rules.specs.Facts.{is_dialling}
use Rattle.ppp_link_rules.specs.Hearing.{looked_after}
use Rattle.ppp_link_rules.specs.LcpCalls.{lcp_called}
use Rattle.ppp_base.specs.declared.hook_target.HookTarget.{HookTarget}
use Rattle.ppp_link_rules.specs.LinkEvent.{Event, Begin, Dialled, Bytes, LineOver, Flushed, Tick, Signal, FromTable, HookOver}
use Rattle.ppp_link_rules.specs.LinkPart.{after, after_unless, bytes_taken, happened, is_nothing as does_nothing, job_ended, reading_back, writing_back}
use Rattle.ppp_link_rules.specs.LinkState.{LinkState, wants_line, control, is_absent, is_busy, is_lasting, is_out, is_waiting}
use Rattle.ppp_link_rules.specs.Marking.{marked}
use Rattle.ppp_link_rules.specs.Marks.{Doing, New, Dials, HasLine, IsOver, Holds, Waits, HasFinished, doing_in, hold_by, is_session, status_by}
use Rattle.ppp_link_rules.specs.Posts.{made_member, post_taken}
use Rattle.ppp_link_rules.specs.Sessions.{at_end, attempted, dial_answered, dial_come, is_over, line_gone, line_gone_if, line_lost, over_if, over_marked, session_over, with_failure, with_line_ended}
use Rattle.ppp_link_rules.specs.Signals.{hung_up_by, signal_marked, signal_taken, stopped_by, stopping}
use Rattle.ppp_link_rules.specs.Ticking.{moments_of, slots_treated, ticked, timers_treated, treated as slot_treated, treated_if, with_time}
use Rattle.ppp_link_rules.proofs.EachRule.{chat-ticked, closed-if, ended-by, first-caused, lcp-called, looked-after, made-member, octets-taken, phase-called, rejected-in, sent-in}
use Rattle.ppp_link_facts.specs.Budget.{SaidLast}
use Rattle.ppp_link.specs.Between.{IsInStep, Moves, MovesTo, brings_nothing}
use Rattle.ppp_link.proofs.SameLemmas.{Same, and, due-marks, kept, same, same_marks, then as behind_same}

pub stays : (s : LinkState) → Moves s s
stays s i = record { step = i; out = refl; made = refl; failed = refl; reading = λ e. e; writing = λ e. e }

pub behind : {a b c : LinkState} → Moves a b → Moves b c → Moves a c
behind f g i =
    let x : MovesTo _ _ = f i in
    let y : MovesTo _ _ = g x.step in
    record {
      step = y.step;
      out = y.out ∙ x.out;
      made = y.made ∙ x.made;
      failed = y.failed ∙ x.failed;
      reading = λ e. x.reading (y.reading e);
      writing = λ e. x.writing (y.writing e);
    }

pub last-same : {s t : LinkState} → Same s t → (dial_so_far t).last ≡ (dial_so_far s).last
last-same {s = s} {t = t} k =
    k.marks.last t.config.line t.log.limit
    ∙ (ap (λ (c : LinkValues). last_in nothing_yet (dialled_in c.line t.log.limit s.log.past)) k.config
    ∙ ap (λ (limit : ℕ). last_in nothing_yet (dialled_in s.config.line limit s.log.past)) k.limit)

pub same-moves : {s t : LinkState} → Same s t → Moves s t
same-moves {s = s} {t = t} k i = record {
  step = record {
    said = subst (λ d. SaidLast d (dial_so_far t).last) (sym k.marks.doing) (subst (λ l. SaidLast (control s).doing l) (sym (last-same k)) i.said);
    dials = λ e. ap is_dialling k.marks.doing ∙ i.dials (ap is_absent (sym k.dial) ∙ e);
  };
  out = ap is_out k.dial;
  made = ap (λ d. if is_waiting d then (control t).session - 1 else (control t).session) k.dial ∙ ap (λ n. if is_waiting s.dial then n - 1 else n) k.marks.session;
  failed = k.failed;
  reading = λ e. ap is_waiting (sym k.reading) ∙ e;
  writing = λ e. ap is_waiting (sym k.writing) ∙ e;
}

-- WHAT THE DIAL ANSWERS

pub absent-in : (e : Errand) → is_absent e ≡ true → is_out e ≡ false
absent-in Absent a = refl
absent-in Waiting a = absurd (false≢true a)
absent-in Out a = absurd (false≢true a)

pub absent-made : (e : Errand) (n : ℕ) → is_absent e ≡ true → (if is_waiting e then n - 1 else n) ≡ n
absent-made Absent n a = refl
absent-made Waiting n a = absurd (false≢true a)
absent-made Out n a = absurd (false≢true a)

pub one-less : (n : ℕ) → n + 1 - 1 ≡ n
one-less n = omega arith

pub attempted-moves : (s : LinkState) → is_absent s.dial ≡ true → Moves s (attempted s)
unfolding attempted
attempted-moves s a i = record {
  step = record { said = refl; dials = λ e. refl };
  out = sym (absent-in s.dial a);
  made = one-less (control s).session ∙ sym (absent-made s.dial (control s).session a);
  failed = refl;
  reading = λ e. absurd (false≢true e);
  writing = λ e. absurd (false≢true e);
}

-- an answer but Nothing comes only where there is no dial
pub answered-moves : (now : DialNow) (s : LinkState) → (is_nothing now ≡ false → is_absent s.dial ≡ true) → Moves s (dial_answered now s)
answered-moves answer.Nothing s a = stays s
answered-moves answer.Begin s a = attempted-moves s (a refl)
answered-moves (answer.Hold ms) s a = λ i. record {
  step = record { said = refl; dials = λ e. absurd (true≢false (sym (a refl) ∙ e)) };
  out = refl;
  made = refl;
  failed = refl;
  reading = λ e. e;
  writing = λ e. e;
}
answered-moves answer.Wait s a = λ i. record {
  step = record { said = refl; dials = λ e. absurd (true≢false (sym (a refl) ∙ e)) };
  out = refl;
  made = refl;
  failed = refl;
  reading = λ e. e;
  writing = λ e. e;
}
answered-moves (answer.Finish status) s a = λ i. record {
  step = record { said = refl; dials = λ e. absurd (true≢false (sym (a refl) ∙ e)) };
  out = refl;
  made = refl;
  failed = refl;
  reading = λ e. e;
  writing = λ e. e;
}

-- Where no attempt is under way, there is no dial.
pub not-begun : (doing : Doing) (last : DialNow × ℕ) → SaidLast doing last → is_dialling doing ≡ true → was_begun last ≡ true
not-begun New last t d = absurd (false≢true d)
not-begun Dials last t d = t
not-begun HasLine last t d = absurd (false≢true d)
not-begun IsOver last t d = absurd (false≢true d)
not-begun (Holds until) last t d = absurd (false≢true d)
not-begun Waits last t d = absurd (false≢true d)
not-begun (HasFinished status) last t d = absurd (false≢true d)

pub idle-by : (absent : Bool) (doing : Doing) (last : DialNow × ℕ) → SaidLast doing last → (absent ≡ false → is_dialling doing ≡ true) → was_begun last ≡ false → absent ≡ true
idle-by true doing last t d b = refl
idle-by false doing last t d b = absurd (true≢false (sym (not-begun doing last t (d refl)) ∙ b))

pub idle : (s : LinkState) → IsInStep s → was_begun (dial_so_far s).last ≡ false → is_absent s.dial ≡ true
idle s i b = idle-by (is_absent s.dial) (control s).doing (dial_so_far s).last i.said i.dials b

-- The calls but the end of a session are answered where no attempt is under way.
pub start-idle : (last : DialNow × ℕ) (x : DialNow) → is_nothing (if is_nothing last.0 then x else answer.Nothing) ≡ false → was_begun last ≡ false
start-idle (answer.Nothing, at) x e = refl
start-idle (answer.Begin, at) x e = absurd (true≢false e)
start-idle (answer.Hold ms, at) x e = refl
start-idle (answer.Wait, at) x e = refl
start-idle (answer.Finish status, at) x e = refl

pub wake-idle : (last : DialNow × ℕ) (x : DialNow) → is_nothing (if was_to_wait last then x else answer.Nothing) ≡ false → was_begun last ≡ false
wake-idle (answer.Nothing, at) x e = refl
wake-idle (answer.Begin, at) x e = absurd (true≢false e)
wake-idle (answer.Hold ms, at) x e = refl
wake-idle (answer.Wait, at) x e = refl
wake-idle (answer.Finish status, at) x e = refl

pub hup-idle : (last : DialNow × ℕ) (x : DialNow) → is_nothing (if is_some (hold_since last) then x else answer.Nothing) ≡ false → was_begun last ≡ false
hup-idle (answer.Nothing, at) x e = refl
hup-idle (answer.Begin, at) x e = absurd (true≢false e)
hup-idle (answer.Hold ms, at) x e = refl
hup-idle (answer.Wait, at) x e = refl
hup-idle (answer.Finish status, at) x e = refl

pub tick-idle : (now : ℕ) (last : DialNow × ℕ) (x : DialNow) → is_nothing (if has_come now (hold_since last) then x else answer.Nothing) ≡ false → was_begun last ≡ false
tick-idle now (answer.Nothing, at) x e = refl
tick-idle now (answer.Begin, at) x e = absurd (true≢false e)
tick-idle now (answer.Hold ms, at) x e = refl
tick-idle now (answer.Wait, at) x e = refl
tick-idle now (answer.Finish status, at) x e = refl

pub stop-idle : (last : DialNow × ℕ) (x : DialNow) → is_nothing (if was_begun last || is_some (status_of last) then answer.Nothing else x) ≡ false → was_begun last ≡ false
stop-idle (answer.Nothing, at) x e = refl
stop-idle (answer.Begin, at) x e = absurd (true≢false e)
stop-idle (answer.Hold ms, at) x e = refl
stop-idle (answer.Wait, at) x e = refl
stop-idle (answer.Finish status, at) x e = refl

pub start-moves : (s : LinkState) → Moves s (dial_answered (dial_says call.Start s) s)
start-moves s i = answered-moves (dial_says call.Start s) s (λ e. idle s i (start-idle (dial_so_far s).last _ e)) i

pub wake-moves : (s : LinkState) → Moves s (dial_answered (dial_says call.Wake s) s)
wake-moves s i = answered-moves (dial_says call.Wake s) s (λ e. idle s i (wake-idle (dial_so_far s).last _ e)) i

pub hup-moves : (s : LinkState) → Moves s (dial_answered (dial_says call.Hup s) s)
hup-moves s i = answered-moves (dial_says call.Hup s) s (λ e. idle s i (hup-idle (dial_so_far s).last _ e)) i

pub tick-moves : (s : LinkState) → Moves s (dial_answered (dial_says call.Tick s) s)
tick-moves s i = answered-moves (dial_says call.Tick s) s (λ e. idle s i (tick-idle s.time (dial_so_far s).last _ e)) i

pub stop-moves : (s : LinkState) → Moves s (dial_answered (dial_says call.Stop s) s)
stop-moves s i = answered-moves (dial_says call.Stop s) s (λ e. idle s i (stop-idle (dial_so_far s).last _ e)) i

-- THE END OF A SESSION

pub lasting-begun : (doing : Doing) (last : DialNow × ℕ) → SaidLast doing last → is_session doing ≡ true → was_begun last ≡ true
lasting-begun New last t e = absurd (false≢true e)
lasting-begun Dials last t e = t
lasting-begun HasLine last t e = t
lasting-begun IsOver last t e = absurd (false≢true e)
lasting-begun (Holds until) last t e = absurd (false≢true e)
lasting-begun Waits last t e = absurd (false≢true e)
lasting-begun (HasFinished status) last t e = absurd (false≢true e)

pub fourth : (a b c d rest : Bool) → (a && (b && (c && (d && rest)))) ≡ true → d ≡ true
fourth true true true d rest e = (and_parts d rest e).0
fourth true true false d rest e = absurd (false≢true e)
fourth true false c d rest e = absurd (false≢true e)
fourth false b c d rest e = absurd (false≢true e)

pub over-absent : (s : LinkState) → is_over s ≡ true → is_absent s.dial ≡ true
over-absent s e = fourth (is_lasting s) (is_some (control s).cause) (not (wants_line s)) (is_absent s.dial) (not (is_out s.reading) && not (is_out s.writing)) e

pub over-lasts : (s : LinkState) → is_over s ≡ true → is_session (control s).doing ≡ true
over-lasts s e = (and_parts (is_lasting s) (is_some (control s).cause && (not (wants_line s) && (is_absent s.dial && (not (is_out s.reading) && not (is_out s.writing))))) e).0

pub over-marked : (s : LinkState) → is_over s ≡ true → Moves s (over_marked s)
over-marked s e i = record {
  step = record {
    said = lasting-begun (control s).doing (dial_so_far s).last i.said (over-lasts s e);
    dials = λ d. absurd (true≢false (sym (over-absent s e) ∙ d));
  };
  out = refl;
  made = refl;
  failed = refl;
  reading = λ w. absurd (false≢true w);
  writing = λ w. absurd (false≢true w);
}

pub over-if : (b : Bool) (s : LinkState) → (b ≡ true → is_over s ≡ true) → Moves s (over_if b s)
over-if true s e = behind {b = over_marked s} (over-marked s (e refl)) (answered-moves _ (over_marked s) (λ n. over-absent s (e refl)))
over-if false s e = stays s

pub session-over : (s : LinkState) → Moves s (session_over s)
unfolding session_over
session-over s = over-if (is_over s) s (λ e. e)

pub at-the-end : (s : LinkState) → Moves s (at_end s)
at-the-end s = behind {b = looked_after s} (same-moves (looked-after kept s)) (session-over (looked_after s))

-- THE LINE

pub line-gone : (c : Cause) (s : LinkState) → Same s (line_gone c s)
line-gone c s = behind_same {b = with_line_ended s} (record { dial = refl; failed = refl; reading = refl; writing = refl; config = refl; limit = refl; marks = same_marks })
    (let a : LinkState = first_caused (Some c) (with_line_ended s) in
    behind_same {b = a} (first-caused kept (Some c) (is_busy (with_line_ended s)) (with_line_ended s)) (behind_same (lcp-called kept (by_itself goes_down) a) (closed-if kept (is_first (Some c) s) (lcp_called (by_itself goes_down) a))))

pub line-gone-if : (b : Bool) (c : Cause) (s : LinkState) → Same s (line_gone_if b c s)
line-gone-if true c s = line-gone c s
line-gone-if false c s = same s

pub line-lost : (c : Cause) (s : LinkState) → Same s (line_lost c s)
unfolding line_lost
line-lost c s = line-gone-if (is_lasting s && not s.line_ended) c s

pub reading-back : (how : ReadEnd) (s : LinkState) → Same s (reading_back how s)
reading-back read.End s = line-lost _ s
reading-back read.Failed s = line-lost _ s
reading-back read.Left s = same s

pub writing-back : (how : SentEnd) (s : LinkState) → Same s (writing_back how s)
writing-back sent.All s = same s
writing-back (sent.Failed count) s = line-lost _ s

-- SIGNALS

pub stop-last : (b : Bool) (line : LineWords) (room time : ℕ) (past : List Mark) (calls : List Happened) → last_in nothing_yet (dialled_by None b line room time past calls) ≡ last_in nothing_yet calls
stop-last true line room time past calls = refl
stop-last false line room time past calls = refl

pub signal-marked : (word : SignalWord) (s : LinkState) → Same s (signal_marked word s)
signal-marked Hup s = record { dial = refl; failed = refl; reading = refl; writing = refl; config = refl; limit = refl; marks = record { doing = refl; session = refl; last = λ line limit. refl } }
signal-marked Int s = record { dial = refl; failed = refl; reading = refl; writing = refl; config = refl; limit = refl; marks = record { doing = refl; session = refl; last = λ line limit. stop-last (is_session (doing_in s.log.past)) line _ _ s.log.past (dialled_in line limit s.log.past) } }
signal-marked Term s = record { dial = refl; failed = refl; reading = refl; writing = refl; config = refl; limit = refl; marks = record { doing = refl; session = refl; last = λ line limit. stop-last (is_session (doing_in s.log.past)) line _ _ s.log.past (dialled_in line limit s.log.past) } }
signal-marked Usr1 s = record { dial = refl; failed = refl; reading = refl; writing = refl; config = refl; limit = refl; marks = record { doing = refl; session = refl; last = λ line limit. stop-last (is_session (doing_in s.log.past)) line _ _ s.log.past (dialled_in line limit s.log.past) } }
signal-marked Usr2 s = record { dial = refl; failed = refl; reading = refl; writing = refl; config = refl; limit = refl; marks = record { doing = refl; session = refl; last = λ line limit. stop-last (is_session (doing_in s.log.past)) line _ _ s.log.past (dialled_in line limit s.log.past) } }

pub hung-up : (busy holds : Bool) (s : LinkState) → Moves s (hung_up_by busy holds s)
hung-up true holds s = behind {b = signal_marked Hup s} (same-moves (signal-marked Hup s)) (same-moves (ended-by kept (signalled 1) (signal_marked Hup s)))
hung-up false true s = behind {b = signal_marked Hup s} (same-moves (signal-marked Hup s)) (hup-moves (signal_marked Hup s))
hung-up false false s = stays s

pub is-stopping : (word : SignalWord) (s : LinkState) → Moves s (stopping word s)
is-stopping word s = behind {b = dial_answered (dial_says call.Stop s) s} (stop-moves s) (same-moves (ended-by kept _ (dial_answered (dial_says call.Stop s) s)))

pub is-stopped : (b : Bool) (word : SignalWord) (s : LinkState) → Moves s (stopped_by b word s)
is-stopped true word s = stays s
is-stopped false word s = behind {b = signal_marked word s} (same-moves (signal-marked word s)) (is-stopping word (signal_marked word s))

pub signal-taken : (word : SignalWord) (s : LinkState) → Moves s (signal_taken word s)
unfolding signal_taken
signal-taken Hup s = hung-up (is_busy s) (is_some (hold_by (control s).doing)) s
signal-taken Int s = is-stopped ((control s).stopped || is_some (status_by (control s).doing)) Int s
signal-taken Term s = is-stopped ((control s).stopped || is_some (status_by (control s).doing)) Term s
signal-taken Usr1 s = stays s
signal-taken Usr2 s = stays s

-- TICKS

pub slot-treated : (which : Slot) (s : LinkState) → Moves s (slot_treated which s)
slot-treated slot.LcpRestart s = same-moves (lcp-called kept _ s)
slot-treated slot.AuthRestart s = same-moves (phase-called kept _ s)
slot-treated slot.AuthEnd s = stays s
slot-treated slot.Echo s = stays s
slot-treated slot.Hold s = tick-moves s
slot-treated slot.IpcpRestart s = stays s
slot-treated slot.Idle s = stays s
slot-treated slot.Connect s = stays s

pub slot-treated-if : (b : Bool) (which : Slot) (s : LinkState) → Moves s (treated_if b which s)
slot-treated-if true which s = slot-treated which s
slot-treated-if false which s = stays s

pub slots-treated : (slots : List Slot) (s : LinkState) → Moves s (slots_treated slots s)
slots-treated [] s = stays s
slots-treated (which ∷ slots) s = behind {b = treated_if (is_some (moment_of (moments_of s) which)) which s} (slot-treated-if (is_some (moment_of (moments_of s) which)) which s) (slots-treated slots (treated_if (is_some (moment_of (moments_of s) which)) which s))

pub is-ticked : (now : ℕ) (s : LinkState) → Moves s (ticked now s)
unfolding ticked
is-ticked now s =
    let t : LinkState = with_time now s in
    behind {b = t} (same-moves (record { dial = refl; failed = refl; reading = refl; writing = refl; config = refl; limit = refl; marks = same_marks }))
    (behind {b = timers_treated t} (slots-treated (due_slots (moments_of t) t.time) t) (same-moves (chat-ticked kept (timers_treated t).listener (timers_treated t))))

-- POSTS, OCTETS AND SCRIPTS

pub post-taken : (post : Post) (s : LinkState) → Moves s (post_taken post s)
unfolding post_taken
post-taken (Member stay unit live) s = same-moves (made-member kept stay unit live s)
post-taken (Refused stay reason) s = same-moves (behind_same {b = marked (λ time. refused_mark time reason stay) s} (record { dial = refl; failed = refl; reading = refl; writing = refl; config = refl; limit = refl; marks = record { doing = refl; session = refl; last = λ line limit. refl } }) (ended-by kept _ _))
post-taken (Close stay unit why elapsed live) s = same-moves (behind_same {b = made_member stay unit live s} (made-member kept stay unit live s) (ended-by kept _ _))
post-taken (Send protocol information) s = same-moves (sent-in kept (control s).stay protocol information s)
post-taken (Reject protocol information) s = same-moves (rejected-in kept (control s).stay protocol information s)
post-taken Wake s = wake-moves s

pub is-bytes : (octets : List ℕ) (s : LinkState) → Same s (bytes_taken octets s)
is-bytes octets s = behind_same {b = _} (record { dial = refl; failed = refl; reading = refl; writing = refl; config = refl; limit = refl; marks = same_marks }) (octets-taken kept octets _)

pub job-over : (how : ScriptEnd) (s : LinkState) → Same s (job_ended how s)
job-over how s = record {
  dial = refl;
  failed = refl;
  reading = refl;
  writing = refl;
  config = refl;
  limit = refl;
  marks = and {b = ended_mark s.time how (ends_in (said_in s.log.past) + 1) ∷ s.log.past} (record { doing = refl; session = refl; last = λ line limit. refl })
      (due-marks s.time (ended_mark s.time how (ends_in (said_in s.log.past) + 1) ∷ s.log.past));
}

-- EVENTS THAT BRING NO OBJECT BACK

pub unless-moves : (nothing : Bool) (event : Event) (s : LinkState) → Moves s (happened event s) → Moves s (after_unless nothing event s)
unless-moves true event s m = stays s
unless-moves false event s m = behind {b = happened event s} m (at-the-end (happened event s))

pub behind-event : (event : Event) (s : LinkState) → Moves s (happened event s) → Moves s (after event s)
unfolding after
behind-event event s m = unless-moves (does_nothing event s) event s m

pub begin_moves : (s : LinkState) → Moves s (after Begin s)
begin_moves s = behind-event Begin s (start-moves s)

pub bytes_moves : (link session offset : ℕ) (octets : List ℕ) (s : LinkState) → Moves s (after (Bytes link session offset octets) s)
bytes_moves link session offset octets s = behind-event (Bytes link session offset octets) s (same-moves (is-bytes octets s))

pub tick_event : (now : ℕ) (s : LinkState) → Moves s (after (Tick now) s)
tick_event now s = behind-event (Tick now) s (is-ticked now s)

pub signal_event : (word : SignalWord) (s : LinkState) → Moves s (after (Signal word) s)
signal_event word s = behind-event (Signal word) s (signal-taken word s)

pub post_event : (post : Post) (s : LinkState) → Moves s (after (FromTable post) s)
post_event post s = behind-event (FromTable post) s (post-taken post s)

pub job_event : (target : HookTarget) (job not_started : ℕ) (answer : ScriptEnd) (s : LinkState) → Moves s (after (HookOver target job not_started answer) s)
job_event target job not_started answer s = behind-event (HookOver target job not_started answer) s (same-moves (job-over answer s))

-- EVENTS THAT BRING ONE BACK: its errand is in before it.

pub read_moves : (link session : ℕ) (how : ReadEnd) (s : LinkState) → Moves (record s { reading = Waiting }) (after (LineOver link session how) s)
unfolding after
read_moves link session how s = behind {b = reading_back how (record s { reading = Waiting })} (same-moves (reading-back how (record s { reading = Waiting }))) (at-the-end _)

pub written_moves : (link session : ℕ) (how : SentEnd) (s : LinkState) → Moves (record s { writing = Waiting }) (after (Flushed link session how) s)
unfolding after
written_moves link session how s = behind {b = writing_back how (record s { writing = Waiting })} (same-moves (writing-back how (record s { writing = Waiting }))) (at-the-end _)

-- A dial that has come back: without a line, or with one that is dropped, nothing else moves.
pub failed-moves : (link session failed : ℕ) (s : LinkState) → Moves (with_failure s) (after (Dialled link session failed false) s)
unfolding after
failed-moves link session failed s = behind {b = dial_come false s} (same-moves (ended-by kept dial_failed (with_failure s))) (at-the-end _)

pub each-moves : (event : Event) (s : LinkState) → brings_nothing event ≡ true → Moves s (after event s)
each-moves Begin s e = begin_moves s
each-moves (Dialled link session failed came) s e = absurd (false≢true e)
each-moves (Bytes link session offset octets) s e = bytes_moves link session offset octets s
each-moves (LineOver link session how) s e = absurd (false≢true e)
each-moves (Flushed link session how) s e = absurd (false≢true e)
each-moves (Tick now) s e = tick_event now s
each-moves (Signal word) s e = signal_event word s
each-moves (FromTable post) s e = post_event post s
each-moves (HookOver target job not_started answer) s e = job_event target job not_started answer s
