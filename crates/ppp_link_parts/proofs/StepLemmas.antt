-- The dial does what the marks tell: what a call of it answers there, and that it does so again behind the answer's mark.
use Rattle.std.proofs.Common.{refl, ap, sym, ◌∙◌, ◌≡◌, ◌≢◌, ℕ, ◌+◌, Bool, true, false, if◌then◌else◌, None, is_some, List, [], ◌∷◌, nat_lt, arith}
use Rattle.ppp_dial.specs.declared.call.CallKind.{CallKind}
use Rattle.ppp_dial.specs.declared.call.CallKind.TheVariants.{Start, Wake, Hup, Tick, SessionOver, Stop}
use Rattle.ppp_dial.specs.declared.dial.Dial.{Dial}
use Rattle.ppp_dial.specs.declared.now.DialNow.{DialNow}
use Rattle.ppp_dial.specs.declared.now.DialNow.TheVariants.{Nothing, Begin, Hold, Wait, Finish}
use Rattle.ppp_dial.specs.declared.policy.DialPolicy.{DialPolicy}
use Rattle.ppp_dial.specs.declared.session_end.SessionEnd.{SessionEnd}
use Rattle.ppp_dial.specs.declared.stage.Stage.{Stage}
use Rattle.ppp_dial.specs.declared.stage.Stage.TheVariants as stage
use Rattle.ppp_dial.specs.Answer.{after_session, answer_to}
use Rattle.ppp_dial.specs.DialLaw.{DialLaw, MayCome}
use Rattle.ppp_dial.specs.DialState.{IsUnderWay, StandsFor, stage_of}
use Rattle.ppp_dial.specs.Happened.{Happened, asked, happened}
use Rattle.ppp_dial.specs.LookingBack.{SoFar, failures_in, failures_with, is_nothing, is_stopped_in, last_in, nothing_yet, so_far}
use Rattle.ppp_mark.specs.Log.{LogState}
use Rattle.ppp_link_rules.specs.Marks.{Doing, New, Dials, HasLine, IsOver, Holds, Waits, HasFinished, doing_in, hold_by, is_session, status_by}
use Rattle.ppp_link_parts.specs.Records.{IsInStep, log_answered, stage_by}

-- the law of the dial that each call has one answer
abbrev pub OneAnswer : Type 0
OneAnswer = (policy : DialPolicy) (before : SoFar) (past : List Happened) (h : Happened) → DialLaw policy before (h ∷ past)
    → (h.answer ≡ answer_to policy (so_far before past) h.call) × MayCome h.call.kind (so_far before past)

-- what a call adds to the calls that a dial stands for
abbrev pub Adds : Dial → Dial → CallKind → ℕ → ℕ → DialNow → Type 0
Adds old new kind time room answer = (before : SoFar) (calls : List Happened) → StandsFor before old calls → StandsFor before new (happened kind time room answer ∷ calls)

pub is_answer : (old new : Dial) (kind : CallKind) (time room : ℕ) (answer : DialNow) (calls : List Happened) → Adds old new kind time room answer → OneAnswer
    → StandsFor nothing_yet old calls → answer ≡ answer_to new.policy (so_far nothing_yet calls) (asked kind time room)
is_answer old new kind time room answer calls goes one h =
    (one new.policy nothing_yet calls (happened kind time room answer) (goes nothing_yet calls h).law).0

-- THE STAGE, BY THE LAST ANSWER

pub last_stage : (dial : Dial) (doing : Doing) (h : IsInStep dial doing) → stage_of (last_in nothing_yet h.calls) ≡ stage_by doing
last_stage dial doing h = sym (ap (λ (d : Dial). d.stage) h.stands.state) ∙ h.does

-- what a link does whose dial is new, holds, waits
new_stage : (doing : Doing) → stage.New ≡ stage_by doing → doing ≡ New
new_stage New e = refl
new_stage Dials e = absurd (cc e)
new_stage HasLine e = absurd (cc e)
new_stage IsOver e = absurd (cc e)
new_stage (Holds until) e = absurd (cc e)
new_stage Waits e = absurd (cc e)
new_stage (HasFinished status) e = absurd (cc e)

waits_stage : (doing : Doing) → stage.Waiting ≡ stage_by doing → doing ≡ Waits
waits_stage New e = absurd (cc e)
waits_stage Dials e = absurd (cc e)
waits_stage HasLine e = absurd (cc e)
waits_stage IsOver e = absurd (cc e)
waits_stage (Holds until) e = absurd (cc e)
waits_stage Waits e = refl
waits_stage (HasFinished status) e = absurd (cc e)

holds_stage : (doing : Doing) (until : ℕ) → stage.Holding until ≡ stage_by doing → doing ≡ Holds until
holds_stage New until e = absurd (cc e)
holds_stage Dials until e = absurd (cc e)
holds_stage HasLine until e = absurd (cc e)
holds_stage IsOver until e = absurd (cc e)
holds_stage (Holds other) until e = ap Holds (sym (cc e))
holds_stage Waits until e = absurd (cc e)
holds_stage (HasFinished status) until e = absurd (cc e)

-- WHERE A CALL IS ANSWERED

-- A start is answered where the link hasn't begun, a wake in a wait, a tick in a hold.
start_by : (policy : DialPolicy) (last : DialNow × ℕ) (failures : ℕ) (stopped : Bool) (doing : Doing) (answer : DialNow) (time room : ℕ) → stage_of last ≡ stage_by doing
    → answer ≡ answer_to policy (record { last = last; failures = failures; stopped = stopped }) (asked Start time room) → is_nothing answer ≡ false → doing ≡ New
start_by policy (Nothing, at) failures stopped doing answer time room e is n = new_stage doing e
start_by policy (Begin, at) failures stopped doing answer time room e is n = absurd (cc (ap is_nothing is, n))
start_by policy (Hold ms, at) failures stopped doing answer time room e is n = absurd (cc (ap is_nothing is, n))
start_by policy (Wait, at) failures stopped doing answer time room e is n = absurd (cc (ap is_nothing is, n))
start_by policy (Finish status, at) failures stopped doing answer time room e is n = absurd (cc (ap is_nothing is, n))

wake_by : (policy : DialPolicy) (last : DialNow × ℕ) (failures : ℕ) (stopped : Bool) (doing : Doing) (answer : DialNow) (time room : ℕ) → stage_of last ≡ stage_by doing
    → answer ≡ answer_to policy (record { last = last; failures = failures; stopped = stopped }) (asked Wake time room) → is_nothing answer ≡ false → doing ≡ Waits
wake_by policy (Nothing, at) failures stopped doing answer time room e is n = absurd (cc (ap is_nothing is, n))
wake_by policy (Begin, at) failures stopped doing answer time room e is n = absurd (cc (ap is_nothing is, n))
wake_by policy (Hold ms, at) failures stopped doing answer time room e is n = absurd (cc (ap is_nothing is, n))
wake_by policy (Wait, at) failures stopped doing answer time room e is n = waits_stage doing e
wake_by policy (Finish status, at) failures stopped doing answer time room e is n = absurd (cc (ap is_nothing is, n))

tick_by : (policy : DialPolicy) (last : DialNow × ℕ) (failures : ℕ) (stopped : Bool) (doing : Doing) (answer : DialNow) (time room : ℕ) → stage_of last ≡ stage_by doing
    → answer ≡ answer_to policy (record { last = last; failures = failures; stopped = stopped }) (asked Tick time room) → is_nothing answer ≡ false
    → (until : ℕ) × (doing ≡ Holds until)
tick_by policy (Nothing, at) failures stopped doing answer time room e is n = absurd (cc (ap is_nothing is, n))
tick_by policy (Begin, at) failures stopped doing answer time room e is n = absurd (cc (ap is_nothing is, n))
tick_by policy (Hold ms, at) failures stopped doing answer time room e is n = (at + ms, holds_stage doing (at + ms) e)
tick_by policy (Wait, at) failures stopped doing answer time room e is n = absurd (cc (ap is_nothing is, n))
tick_by policy (Finish status, at) failures stopped doing answer time room e is n = absurd (cc (ap is_nothing is, n))

pub start_where : (old new : Dial) (doing : Doing) (time room : ℕ) (answer : DialNow) → IsInStep old doing → Adds old new Start time room answer → OneAnswer
    → is_nothing answer ≡ false → doing ≡ New
start_where old new doing time room answer h goes one n =
    start_by new.policy (last_in nothing_yet h.calls) (failures_in nothing_yet h.calls) (is_stopped_in nothing_yet h.calls) doing answer time room (last_stage old doing h) (is_answer old new Start time room answer h.calls goes one h.stands) n

pub wake_where : (old new : Dial) (doing : Doing) (time room : ℕ) (answer : DialNow) → IsInStep old doing → Adds old new Wake time room answer → OneAnswer
    → is_nothing answer ≡ false → doing ≡ Waits
wake_where old new doing time room answer h goes one n =
    wake_by new.policy (last_in nothing_yet h.calls) (failures_in nothing_yet h.calls) (is_stopped_in nothing_yet h.calls) doing answer time room (last_stage old doing h) (is_answer old new Wake time room answer h.calls goes one h.stands) n

pub tick_where : (old new : Dial) (doing : Doing) (time room : ℕ) (answer : DialNow) → IsInStep old doing → Adds old new Tick time room answer → OneAnswer
    → is_nothing answer ≡ false → (until : ℕ) × (doing ≡ Holds until)
tick_where old new doing time room answer h goes one n =
    tick_by new.policy (last_in nothing_yet h.calls) (failures_in nothing_yet h.calls) (is_stopped_in nothing_yet h.calls) doing answer time room (last_stage old doing h) (is_answer old new Tick time room answer h.calls goes one h.stands) n

-- A hang-up in a hold has an answer.
some_next : (policy : DialPolicy) (room : ℕ) (demand small : Bool) → is_nothing (if demand then Wait else (if small then Finish 34 else Begin)) ≡ false
some_next policy room true small = refl
some_next policy room false true = refl
some_next policy room false false = refl

hup_by : (policy : DialPolicy) (last : DialNow × ℕ) (failures : ℕ) (stopped : Bool) (until : ℕ) (answer : DialNow) (time room : ℕ) → stage_of last ≡ stage.Holding until
    → answer ≡ answer_to policy (record { last = last; failures = failures; stopped = stopped }) (asked Hup time room) → is_nothing answer ≡ false
hup_by policy (Nothing, at) failures stopped until answer time room e is = absurd (cc e)
hup_by policy (Begin, at) failures stopped until answer time room e is = absurd (cc e)
hup_by policy (Hold ms, at) failures stopped until answer time room e is = ap is_nothing is ∙ some_next policy room policy.demand (nat_lt room 1024)
hup_by policy (Wait, at) failures stopped until answer time room e is = absurd (cc e)
hup_by policy (Finish status, at) failures stopped until answer time room e is = absurd (cc e)

pub hup_where : (old new : Dial) (until : ℕ) (time room : ℕ) (answer : DialNow) → IsInStep old (Holds until) → Adds old new Hup time room answer → OneAnswer
    → is_nothing answer ≡ false
hup_where old new until time room answer h goes one =
    hup_by new.policy (last_in nothing_yet h.calls) (failures_in nothing_yet h.calls) (is_stopped_in nothing_yet h.calls) until answer time room (last_stage old (Holds until) h) (is_answer old new Hup time room answer h.calls goes one h.stands)

pub hup_answered : (old new : Dial) (doing : Doing) (time room : ℕ) (answer : DialNow) → is_some (hold_by doing) ≡ true → IsInStep old doing → Adds old new Hup time room answer → OneAnswer
    → is_nothing answer ≡ false
hup_answered old new New time room answer e h goes one = absurd (cc e)
hup_answered old new Dials time room answer e h goes one = absurd (cc e)
hup_answered old new HasLine time room answer e h goes one = absurd (cc e)
hup_answered old new IsOver time room answer e h goes one = absurd (cc e)
hup_answered old new (Holds until) time room answer e h goes one = hup_where old new until time room answer h goes one
hup_answered old new Waits time room answer e h goes one = absurd (cc e)
hup_answered old new (HasFinished status) time room answer e h goes one = absurd (cc e)

-- A stop is answered Nothing in a session, and by the finish with 5 elsewhere.
stop_by : (policy : DialPolicy) (last : DialNow × ℕ) (failures : ℕ) (stopped : Bool) (doing : Doing) (answer : DialNow) (time room : ℕ) → stage_of last ≡ stage_by doing → doing ≢ IsOver
    → status_by doing ≡ None → answer ≡ answer_to policy (record { last = last; failures = failures; stopped = stopped }) (asked Stop time room)
    → answer ≡ if is_session doing then Nothing else Finish 5
stop_by policy (Nothing, at) failures stopped New answer time room e o l is = is
stop_by policy (Begin, at) failures stopped New answer time room e o l is = absurd (cc e)
stop_by policy (Hold ms, at) failures stopped New answer time room e o l is = absurd (cc e)
stop_by policy (Wait, at) failures stopped New answer time room e o l is = absurd (cc e)
stop_by policy (Finish status, at) failures stopped New answer time room e o l is = absurd (cc e)
stop_by policy (Nothing, at) failures stopped Dials answer time room e o l is = absurd (cc e)
stop_by policy (Begin, at) failures stopped Dials answer time room e o l is = is
stop_by policy (Hold ms, at) failures stopped Dials answer time room e o l is = absurd (cc e)
stop_by policy (Wait, at) failures stopped Dials answer time room e o l is = absurd (cc e)
stop_by policy (Finish status, at) failures stopped Dials answer time room e o l is = absurd (cc e)
stop_by policy (Nothing, at) failures stopped HasLine answer time room e o l is = absurd (cc e)
stop_by policy (Begin, at) failures stopped HasLine answer time room e o l is = is
stop_by policy (Hold ms, at) failures stopped HasLine answer time room e o l is = absurd (cc e)
stop_by policy (Wait, at) failures stopped HasLine answer time room e o l is = absurd (cc e)
stop_by policy (Finish status, at) failures stopped HasLine answer time room e o l is = absurd (cc e)
stop_by policy last failures stopped IsOver answer time room e o l is = absurd (o refl)
stop_by policy (Nothing, at) failures stopped (Holds until) answer time room e o l is = absurd (cc e)
stop_by policy (Begin, at) failures stopped (Holds until) answer time room e o l is = absurd (cc e)
stop_by policy (Hold ms, at) failures stopped (Holds until) answer time room e o l is = is
stop_by policy (Wait, at) failures stopped (Holds until) answer time room e o l is = absurd (cc e)
stop_by policy (Finish status, at) failures stopped (Holds until) answer time room e o l is = absurd (cc e)
stop_by policy (Nothing, at) failures stopped Waits answer time room e o l is = absurd (cc e)
stop_by policy (Begin, at) failures stopped Waits answer time room e o l is = absurd (cc e)
stop_by policy (Hold ms, at) failures stopped Waits answer time room e o l is = absurd (cc e)
stop_by policy (Wait, at) failures stopped Waits answer time room e o l is = is
stop_by policy (Finish status, at) failures stopped Waits answer time room e o l is = absurd (cc e)
stop_by policy last failures stopped (HasFinished status) answer time room e o l is = absurd (cc l)

pub stop_where : (old new : Dial) (doing : Doing) (time room : ℕ) (answer : DialNow) → IsInStep old doing → Adds old new Stop time room answer → OneAnswer
    → status_by doing ≡ None → answer ≡ if is_session doing then Nothing else Finish 5
stop_where old new doing time room answer h goes one lives =
    stop_by new.policy (last_in nothing_yet h.calls) (failures_in nothing_yet h.calls) (is_stopped_in nothing_yet h.calls) doing answer time room (last_stage old doing h) h.not_over lives (is_answer old new Stop time room answer h.calls goes one h.stands)

-- The end of a session has an answer.
some_after : (policy : DialPolicy) (stopped : Bool) (failures : ℕ) (end : SessionEnd) (room : ℕ) → is_nothing (after_session policy stopped failures end room) ≡ false
some_after policy stopped failures end room = grind arith

pub over_where : (old new : Dial) (end : SessionEnd) (time room : ℕ) (answer : DialNow) (doing : Doing) → IsInStep old doing → Adds old new (SessionOver end) time room answer → OneAnswer
    → is_nothing answer ≡ false
over_where old new end time room answer doing h goes one =
    ap is_nothing (is_answer old new (SessionOver end) time room answer h.calls goes one h.stands) ∙ some_after new.policy (is_stopped_in nothing_yet h.calls) (failures_with (SessionOver end) (failures_in nothing_yet h.calls)) end room

-- THE DIAL AND THE MARKS AGAIN

pub line_in_step : (dial : Dial) (doing : Doing) → is_session doing ≡ true → IsInStep dial doing → IsInStep dial HasLine
line_in_step dial New e h = absurd (cc e)
line_in_step dial Dials e h = record { calls = h.calls; stands = h.stands; does = h.does; not_over = λ x. absurd (cc x) }
line_in_step dial HasLine e h = h
line_in_step dial IsOver e h = absurd (cc e)
line_in_step dial (Holds until) e h = absurd (cc e)
line_in_step dial Waits e h = absurd (cc e)
line_in_step dial (HasFinished status) e h = absurd (cc e)

pub under_way : (dial : Dial) (doing : Doing) → is_session doing ≡ true → IsInStep dial doing → IsUnderWay dial
under_way dial New e h = absurd (cc e)
under_way dial Dials e h = h.does
under_way dial HasLine e h = h.does
under_way dial IsOver e h = absurd (cc e)
under_way dial (Holds until) e h = absurd (cc e)
under_way dial Waits e h = absurd (cc e)
under_way dial (HasFinished status) e h = absurd (cc e)

pub new_in_step : (dial : Dial) → StandsFor nothing_yet dial [] → IsInStep dial New
new_in_step dial h = record { calls = []; stands = h; does = ap (λ (d : Dial). d.stage) h.state; not_over = λ x. absurd (cc x) }

stage_is : (new : Dial) (calls : List Happened) (s : Stage) → StandsFor nothing_yet new calls → stage_of (last_in nothing_yet calls) ≡ s → new.stage ≡ s
stage_is new calls s h e = ap (λ (d : Dial). d.stage) h.state ∙ e

-- Behind the mark of an answer the dial does what the marks tell, where it did so before or has an answer.
pub in_step_after : (old new : Dial) (kind : CallKind) (time room : ℕ) (answer : DialNow) (calls : List Happened) (log : LogState) → Adds old new kind time room answer
    → StandsFor nothing_yet old calls → (is_nothing answer ≡ true → IsInStep old (doing_in log.past)) → IsInStep new (doing_in (log_answered answer time log).past)
in_step_after old new kind time room Nothing calls log goes h same =
    let k : IsInStep old (doing_in log.past) = same refl in
    let after : StandsFor nothing_yet new (happened kind time room Nothing ∷ k.calls) = goes nothing_yet k.calls k.stands in
    record { calls = happened kind time room Nothing ∷ k.calls; stands = after; does = stage_is new _ _ after (last_stage old (doing_in log.past) k); not_over = k.not_over }
in_step_after old new kind time room Begin calls log goes h same =
    let after : StandsFor nothing_yet new (happened kind time room Begin ∷ calls) = goes nothing_yet calls h in
    record { calls = happened kind time room Begin ∷ calls; stands = after; does = stage_is new _ _ after refl; not_over = λ x. absurd (cc x) }
in_step_after old new kind time room (Hold ms) calls log goes h same =
    let after : StandsFor nothing_yet new (happened kind time room (Hold ms) ∷ calls) = goes nothing_yet calls h in
    record { calls = happened kind time room (Hold ms) ∷ calls; stands = after; does = stage_is new _ _ after refl; not_over = λ x. absurd (cc x) }
in_step_after old new kind time room Wait calls log goes h same =
    let after : StandsFor nothing_yet new (happened kind time room Wait ∷ calls) = goes nothing_yet calls h in
    record { calls = happened kind time room Wait ∷ calls; stands = after; does = stage_is new _ _ after refl; not_over = λ x. absurd (cc x) }
in_step_after old new kind time room (Finish status) calls log goes h same =
    let after : StandsFor nothing_yet new (happened kind time room (Finish status) ∷ calls) = goes nothing_yet calls h in
    record { calls = happened kind time room (Finish status) ∷ calls; stands = after; does = stage_is new _ _ after refl; not_over = λ x. absurd (cc x) }
