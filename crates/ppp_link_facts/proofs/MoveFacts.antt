-- While no session lasts, each other event leaves what the link does.
use Rattle.std.proofs.Common.{◌≡◌, ◌≢◌, ℕ, ◌+◌, Bool, true, false, cond, List, [], ◌∷◌, length, refl, ap, sym, ◌∙◌}
use Rattle.std.specs.Prelude.{◌==◌, ◌||◌, not, is_some, filter, if◌then◌else◌}
use Rattle.std.proofs.lemmas.Bool.{false≢true}
use Rattle.ppp_auth.specs.Setting.{waits}
use Rattle.ppp_base.specs.declared.posts.Post.{Post}
use Rattle.ppp_base.specs.declared.posts.Post.TheVariants.{Member, Refused, Close, Send, Reject, Wake}
use Rattle.ppp_base.specs.declared.signal_word.SignalWord.{SignalWord}
use Rattle.ppp_base.specs.declared.signal_word.SignalWord.TheVariants.{Hup, Int, Term, Usr1, Usr2}
use Rattle.ppp_control.specs.Rules.{ticks}
use Rattle.ppp_dial.specs.Answer.{attempt}
use Rattle.ppp_dial.specs.declared.now.DialNow.TheVariants.{Nothing}
use Rattle.ppp_dial.specs.LookingBack.{was_to_wait}
use Rattle.ppp_hooks.specs.HookPast.{ends_in}
use Rattle.ppp_mark.specs.Log.{room_of}
use Rattle.ppp_mark.specs.Marks.{ended_mark, refused_mark}
use Rattle.ppp_mark.specs.Scripts.{said_in}
use Rattle.ppp_outside.specs.Counts.{raised}
use Rattle.ppp_outside.specs.declared.spawner.ScriptEnd.{ScriptEnd}
use Rattle.ppp_timer.specs.Due.{has_come, moment_of, slots}
use Rattle.ppp_timer.specs.declared.slot.Slot.{Slot}
use Rattle.ppp_timer.specs.declared.slot.Slot.TheVariants as slot
use Rattle.ppp_link_rules.specs.declared.cause.Cause.{Cause}
use Rattle.ppp_link_rules.specs.declared.errand.Errand.TheVariants.{Waiting}
use Rattle.ppp_link_rules.specs.declared.errand.ReadEnd.{ReadEnd}
use Rattle.ppp_link_rules.specs.declared.errand.ReadEnd.TheVariants as read
use Rattle.ppp_link_rules.specs.declared.errand.SentEnd.{SentEnd}
use Rattle.ppp_link_rules.specs.declared.errand.SentEnd.TheVariants as sent
use Rattle.ppp_link_rules.specs.CauseStatus.{closed_by, dial_failed, join_refused, line_ended, read_failed, write_failed}
use Rattle.ppp_link_rules.specs.Dialling.{dial_so_far}
use Rattle.ppp_link_rules.specs.Facts.{is_start, is_stop, is_wake}
use Rattle.ppp_link_rules.specs.Hearing.{looked_after, octet_taken, octets_taken}
use Rattle.ppp_link_rules.specs.LinkEvent.{Event, Begin, Dialled, Bytes, LineOver, Flushed, Tick, Signal, FromTable, HookOver}
use Rattle.ppp_link_rules.specs.LinkPart.{after, after_unless, happened, is_nothing, is_present, job_ended, reading_back, writing_back}
use Rattle.ppp_link_rules.specs.LinkState.{LinkState, control, is_busy, is_lasting}
use Rattle.ppp_link_rules.specs.Marks.{Dials, Doing, HasFinished, HasLine, Holds, IsOver, New, Waits, doing_in, hold_by, is_new, is_session, stay_in}
use Rattle.ppp_link_rules.specs.Posts.{made_member, names_present, post_taken, stay_of}
use Rattle.ppp_link_rules.specs.Sessions.{dial_answered, dial_come, is_over, line_come_if, line_lost, over_if, session_over, with_dial_back, with_failure}
use Rattle.ppp_link_rules.specs.Signals.{hung_up_by, signal_taken}
use Rattle.ppp_link_rules.specs.Ticking.{moments_of, slots_treated, ticked, timers_treated, treated_if, with_time}
use Rattle.ppp_link_facts.specs.Budget.{BetweenSteps}
use Rattle.ppp_link_facts.specs.Moves.{is_waits, may_move}
use Rattle.ppp_link_facts.proofs.AuthRules.{phase_rule}
use Rattle.ppp_link_facts.proofs.Budgets.{Mid}
use Rattle.ppp_link_facts.proofs.DialFacts.{is_3, key, not_busy, said_key}
use Rattle.ppp_link_facts.proofs.EndRules.{due_same, ended_rule}
use Rattle.ppp_link_facts.proofs.EventRules.{made_rule, present_stay, refused_rule, rejected_in_rule, sent_in_rule}
use Rattle.ppp_link_facts.proofs.HearRules.{looked_rule, lost_rule, octet_rule, ticked_rule}
use Rattle.ppp_link_facts.proofs.LcpRules.{called_rule}
use Rattle.ppp_link_facts.proofs.Room.{mid_of}
use Rattle.ppp_link_facts.proofs.Sight.{sight}

abbrev Does : Doing → LinkState → Type 0
Does d s = doing_in s.log.past ≡ d

octets_do : (octets : List ℕ) (d : Doing) (s : LinkState) → Does d s → Does d (octets_taken octets s)
octets_do [] d s h = h
octets_do (octet ∷ octets) d s h = octets_do octets d (octet_taken octet s) ((octet_rule octet s).adds.doing ∙ h)

come_does : (b : Bool) (d : Doing) (s : LinkState) → b ≡ false → Does d s → Does d (line_come_if b (with_dial_back s))
come_does false d s e h = h
come_does true d s e h = absurd (false≢true (sym e))

dialled_does : (came : Bool) (d : Doing) (s : LinkState) → is_busy s ≡ false → Does d s → Does d (dial_come came s)
dialled_does true d s over h = come_does (is_busy s) d s over h
dialled_does false d s over h = (ended_rule dial_failed (with_failure s)).adds.doing ∙ h

lost_does : (c : Cause) (d : Doing) (s : LinkState) → Does d s → Does d (line_lost c s)
lost_does c d s h = (lost_rule c s).adds.doing ∙ h

read_does : (how : ReadEnd) (d : Doing) (s : LinkState) → Does d s → Does d (reading_back how s)
read_does read.End d s h = lost_does line_ended d s h
read_does read.Failed d s h = lost_does read_failed d s h
read_does read.Left d s h = h

sent_does : (how : SentEnd) (d : Doing) (s : LinkState) → Does d s → Does d (writing_back how s)
sent_does sent.All d s h = h
sent_does (sent.Failed count) d s h = lost_does write_failed d s h

-- TICKS outside a hold

slot_does : (which : Slot) (b : Bool) (d : Doing) (s : LinkState) → is_some (hold_by d) ≡ false → (which ≡ slot.Hold → b ≡ false) → Does d s → Does d (treated_if b which s)
slot_does which false d s none held h = h
slot_does slot.LcpRestart true d s none held h = (called_rule ticks s refl).adds.doing ∙ h
slot_does slot.AuthRestart true d s none held h = (phase_rule waits s).adds.doing ∙ h
slot_does slot.AuthEnd true d s none held h = h
slot_does slot.Echo true d s none held h = h
slot_does slot.Hold true d s none held h = absurd (false≢true (sym (held refl)))
slot_does slot.IpcpRestart true d s none held h = h
slot_does slot.Idle true d s none held h = h
slot_does slot.Connect true d s none held h = h

no_moment : (which : Slot) (d : Doing) (s : LinkState) → is_some (hold_by d) ≡ false → Does d s → which ≡ slot.Hold → is_some (moment_of (moments_of s) which) ≡ false
no_moment which d s none h e = ap (λ (w : Slot). is_some (moment_of (moments_of s) w)) e ∙ ap (λ (x : Doing). is_some (hold_by x)) h ∙ none

slots_do_by : (b : Bool) (one : Slot) (rest : List Slot) (d : Doing) (s : LinkState) → is_some (hold_by d) ≡ false → Does d s → ((t : LinkState) → Does d t → Does d (slots_treated rest t)) → Does d (slots_treated (cond b (one ∷ rest) rest) s)
slots_do_by false one rest d s none h f = f s h
slots_do_by true one rest d s none h f =
    let b : Bool = is_some (moment_of (moments_of s) one) in
    f (treated_if b one s) (slot_does one b d s none (no_moment one d s none h) h)

slots_do : (due : Slot → Bool) (all : List Slot) (d : Doing) (s : LinkState) → is_some (hold_by d) ≡ false → Does d s → Does d (slots_treated (filter due all) s)
slots_do due [] d s none h = h
slots_do due (one ∷ all) d s none h = slots_do_by (due one) one (filter due all) d s none h (λ t h1. slots_do due all d t none h1)

tick_does : (moment : ℕ) (d : Doing) (s : LinkState) → is_some (hold_by d) ≡ false → Does d s → Does d (ticked moment s)
unfolding ticked
tick_does moment d s none h =
    let t : LinkState = with_time moment s in
    (ticked_rule (timers_treated t).listener (timers_treated t) refl).adds.doing ∙ slots_do (λ which. has_come t.time (moment_of (moments_of t) which)) slots d t none h

-- SIGNALS

hup_does : (busy holds : Bool) (d : Doing) (s : LinkState) → busy ≡ false → holds ≡ false → Does d s → Does d (hung_up_by busy holds s)
hup_does false false d s e f h = h
hup_does false true d s e f h = absurd (false≢true (sym f))
hup_does true holds d s e f h = absurd (false≢true (sym e))

signalled_does : (word : SignalWord) (d : Doing) (s : LinkState) → is_busy s ≡ false → may_move (Signal word) d ≡ false → Does d s → Does d (signal_taken word s)
unfolding signal_taken
signalled_does Hup d s over none h = hup_does (is_busy s) (is_some (hold_by (control s).doing)) d s over (ap (λ (x : Doing). is_some (hold_by x)) h ∙ none) h
signalled_does Int d s over none h = absurd (false≢true (sym none))
signalled_does Term d s over none h = absurd (false≢true (sym none))
signalled_does Usr1 d s over none h = h
signalled_does Usr2 d s over none h = h

-- POSTS

not_waits : (d : Doing) → is_waits d ≡ false → (key d == 3) ≡ false
not_waits New e = refl
not_waits Dials e = refl
not_waits HasLine e = refl
not_waits IsOver e = refl
not_waits (Holds until) e = refl
not_waits Waits e = absurd (false≢true (sym e))
not_waits (HasFinished status) e = refl

woken_does : (b : Bool) (d : Doing) (s : LinkState) → b ≡ false → Does d s → Does d (dial_answered (if b then attempt (room_of s.log) else Nothing) s)
woken_does false d s e h = h
woken_does true d s e h = absurd (false≢true (sym e))

posted_does : (post : Post) (d : Doing) (s : LinkState) → names_present (stay_of post) (control s).stay ≡ true → Mid 900 960 (sight s) → may_move (FromTable post) d ≡ false → Does d s → Does d (post_taken post s)
unfolding post_taken
posted_does (Member stay unit live) d s is k none h = (made_rule stay unit live s (present_stay stay (stay_in s.log.past) is)).adds.doing ∙ h
posted_does (Refused stay reason) d s is k none h =
    (ended_rule (join_refused reason) (record s { log = record s.log { past = refused_mark s.time reason stay ∷ s.log.past } })).adds.doing ∙ (refused_rule stay reason s (present_stay stay (stay_in s.log.past) is)).adds.doing ∙ h
posted_does (Close stay unit why elapsed live) d s is k none h =
    (ended_rule (closed_by why) (made_member stay unit live s)).adds.doing ∙ (made_rule stay unit live s (present_stay stay (stay_in s.log.past) is)).adds.doing ∙ h
posted_does (Send protocol information) d s is k none h = (sent_in_rule (control s).stay protocol information s).adds.doing ∙ h
posted_does (Reject protocol information) d s is k none h = (rejected_in_rule (control s).stay protocol information s).adds.doing ∙ h
posted_does Wake d s is k none h =
    let idle : was_to_wait (dial_so_far s).last ≡ false = is_3 (dial_so_far s).last ∙ ap (λ (n : ℕ). n == 3) (said_key s k) ∙ ap (λ (x : Doing). key x == 3) h ∙ not_waits d none in
    woken_does (was_to_wait (dial_so_far s).last) d s idle h

job_does : (answer : ScriptEnd) (d : Doing) (s : LinkState) → Does d s → Does d (job_ended answer s)
job_does answer d s h = due_same doing_in s.time (ended_mark s.time answer (ends_in (said_in s.log.past) + 1) ∷ s.log.past) (λ up n. refl) ∙ h

-- EVENTS

not_first : (b : Bool) → not b ≡ false → b ≡ false → ⊥
not_first true e f = false≢true (sym f)
not_first false e f = false≢true (sym e)

happened_does : (event : Event) (d : Doing) (s : LinkState) → is_present event s ≡ true → is_nothing event s ≡ false → Mid 900 960 (sight s) → is_busy s ≡ false → may_move event d ≡ false → Does d s → Does d (happened event s)
happened_does Begin d s is first k over none h = absurd (not_first (is_new (doing_in s.log.past)) first (ap is_new h ∙ none))
happened_does (Dialled link session failed came) d s is first k over none h = dialled_does came d s over h
happened_does (Bytes link session offset octets) d s is first k over none h = octets_do octets d (record s { taken = raised s.taken (length octets) }) h
happened_does (LineOver link session how) d s is first k over none h = read_does how d (record s { reading = Waiting }) h
happened_does (Flushed link session how) d s is first k over none h = sent_does how d (record s { writing = Waiting }) h
happened_does (Tick moment) d s is first k over none h = tick_does moment d s none h
happened_does (Signal word) d s is first k over none h = signalled_does word d s over none h
happened_does (FromTable post) d s is first k over none h = posted_does post d s is k none h
happened_does (HookOver target job not_started answer) d s is first k over none h = job_does answer d s h

over_does : (b : Bool) (d : Doing) (s : LinkState) → b ≡ false → Does d s → Does d (over_if b s)
over_does false d s e h = h
over_does true d s e h = absurd (false≢true (sym e))

session_does : (d : Doing) (s : LinkState) → is_session d ≡ false → Does d s → Does d (session_over s)
unfolding session_over
session_does d s none h = over_does (is_over s) d s (none_over s (ap is_session h ∙ none)) h
  where
    none_over : (t : LinkState) → is_lasting t ≡ false → is_over t ≡ false
    none_over t e = rw e refl

unless_does : (b : Bool) (event : Event) (d : Doing) (s : LinkState) → is_nothing event s ≡ b → is_present event s ≡ true → Mid 900 960 (sight s) → is_session d ≡ false → may_move event d ≡ false → Does d s → Does d (after_unless b event s)
unless_does true event d s e is k none still h = h
unless_does false event d s e is k none still h =
    let t : LinkState = happened event s in
    let over : is_busy s ≡ false = not_busy (sight s) (ap is_session h ∙ none) in
    session_does d (looked_after t) none ((looked_rule t).adds.doing ∙ happened_does event d s is e k over still h)

pub after_does : (event : Event) (s : LinkState) → is_present event s ≡ true → BetweenSteps s → is_lasting s ≡ false → may_move event (control s).doing ≡ false → (control (after event s)).doing ≡ (control s).doing
unfolding after
after_does event s is k none still = unless_does (is_nothing event s) event (doing_in s.log.past) s refl is (mid_of s k.stands k.budget) none still refl

-- SO A LINK IS BEGUN, AND LEAVES A WAIT, BY THESE ALONE

new_moves : (event : Event) → may_move event New ≡ (is_start event || is_stop event)
new_moves Begin = refl
new_moves (Dialled link session failed came) = refl
new_moves (Bytes link session offset octets) = refl
new_moves (LineOver link session how) = refl
new_moves (Flushed link session how) = refl
new_moves (Tick moment) = refl
new_moves (Signal Hup) = refl
new_moves (Signal Int) = refl
new_moves (Signal Term) = refl
new_moves (Signal Usr1) = refl
new_moves (Signal Usr2) = refl
new_moves (FromTable (Member stay unit live)) = refl
new_moves (FromTable (Refused stay reason)) = refl
new_moves (FromTable (Close stay unit why elapsed live)) = refl
new_moves (FromTable (Send protocol information)) = refl
new_moves (FromTable (Reject protocol information)) = refl
new_moves (FromTable Wake) = refl
new_moves (HookOver target job not_started answer) = refl

wait_moves : (event : Event) → may_move event Waits ≡ (is_wake event || is_stop event)
wait_moves Begin = refl
wait_moves (Dialled link session failed came) = refl
wait_moves (Bytes link session offset octets) = refl
wait_moves (LineOver link session how) = refl
wait_moves (Flushed link session how) = refl
wait_moves (Tick moment) = refl
wait_moves (Signal Hup) = refl
wait_moves (Signal Int) = refl
wait_moves (Signal Term) = refl
wait_moves (Signal Usr1) = refl
wait_moves (Signal Usr2) = refl
wait_moves (FromTable (Member stay unit live)) = refl
wait_moves (FromTable (Refused stay reason)) = refl
wait_moves (FromTable (Close stay unit why elapsed live)) = refl
wait_moves (FromTable (Send protocol information)) = refl
wait_moves (FromTable (Reject protocol information)) = refl
wait_moves (FromTable Wake) = refl
wait_moves (HookOver target job not_started answer) = refl

moved_by : (b : Bool) (event : Event) (s : LinkState) (d : Doing) → may_move event d ≡ b → is_present event s ≡ true → BetweenSteps s → is_session d ≡ false → (control s).doing ≡ d → (control (after event s)).doing ≢ d → may_move event d ≡ true
moved_by true event s d e is k none at moved = e
moved_by false event s d e is k none at moved =
    absurd (moved (after_does event s is k (ap is_session at ∙ none) (ap (λ (x : Doing). may_move event x) at ∙ e) ∙ at))

pub from_new : (event : Event) (s : LinkState) → is_present event s ≡ true → BetweenSteps s → (control s).doing ≡ New → (control (after event s)).doing ≢ New → (is_start event || is_stop event) ≡ true
from_new event s is k at moved = sym (new_moves event) ∙ moved_by (may_move event New) event s New refl is k refl at moved

pub from_wait : (event : Event) (s : LinkState) → is_present event s ≡ true → BetweenSteps s → (control s).doing ≡ Waits → (control (after event s)).doing ≢ Waits → (is_wake event || is_stop event) ≡ true
from_wait event s is k at moved = sym (wait_moves event) ∙ moved_by (may_move event Waits) event s Waits refl is k refl at moved
