-- What a link's dial answers is what its rules say over the calls that the marks tell, and it stands for those calls again behind the answer's mark.
use Rattle.std.proofs.Common.{refl, ap, sym, subst, ◌∙◌, ◌≡◌, ◌≤◌, ◌-◌, ℕ, Bool, true, false, if◌then◌else◌, None, List, [], ◌∷◌, length, arith}
use Rattle.ppp_base.specs.declared.signal_word.SignalWord.{SignalWord}
use Rattle.ppp_base.specs.declared.signal_word.SignalWord.TheVariants as word
use Rattle.ppp_dial.specs.declared.call.CallKind.{CallKind}
use Rattle.ppp_dial.specs.declared.call.CallKind.TheVariants.{Start, Wake, Hup, Tick, SessionOver, Stop}
use Rattle.ppp_dial.specs.declared.dial.Dial.{Dial}
use Rattle.ppp_dial.specs.declared.now.DialNow.{DialNow}
use Rattle.ppp_dial.specs.declared.now.DialNow.TheVariants.{Nothing, Begin, Hold, Wait, Finish}
use Rattle.ppp_dial.specs.declared.policy.DialPolicy.{DialPolicy}
use Rattle.ppp_dial.specs.declared.session_end.SessionEnd.{SessionEnd}
use Rattle.ppp_dial.specs.Answer.{answer_to}
use Rattle.ppp_dial.specs.DialState.{StandsFor}
use Rattle.ppp_dial.specs.Happened.{Happened, asked, happened}
use Rattle.ppp_dial.specs.LookingBack.{is_nothing, nothing_yet, so_far}
use Rattle.ppp_mark.specs.declared.mark.Mark.{Mark}
use Rattle.ppp_mark.specs.Log.{room_of}
use Rattle.ppp_mark.specs.Marks.{over_mark, signal_mark, signal_number}
use Rattle.ppp_outside.specs.declared.line_words.LineWords.{LineWords}
use Rattle.ppp_link_rules.specs.Dialling.{call_behind, dialled_by, dialled_in, end_by, signal_call, stops_session}
use Rattle.ppp_link_rules.specs.Marks.{Holds, New, Waits, cause_in, doing_in, is_session, status_by}
use Rattle.ppp_link_parts.proofs.StepLemmas.{Adds, OneAnswer, is_answer, start_where, stop_where, tick_where, wake_where}
use Rattle.ppp_link_parts.specs.Records.{DialStands, IsInStep, RecordsNow, answer_marked, is_at_rest, is_call, marked_with, says, told}

-- the same at another room
pub says_is : {S : Type 0} (line : LineWords) (r : RecordsNow S) (new : Dial) (kind : CallKind) (time room : ℕ) (answer : DialNow) → room ≡ room_of r.scripts.log
    → new.policy ≡ r.dial.policy → Adds r.dial new kind time room answer → OneAnswer → DialStands line r → answer ≡ says line kind time r
says_is line r new kind time room answer e p goes one h =
    let calls : List Happened = dialled_in line r.scripts.log.limit r.scripts.log.past in
    is_answer r.dial new kind time room answer calls goes one h.stands
    ∙ (ap (λ (policy : DialPolicy). answer_to policy (so_far nothing_yet calls) (asked kind time room)) p
    ∙ ap (λ (n : ℕ). answer_to r.dial.policy (so_far nothing_yet calls) (asked kind time n)) e)

-- of the records by another name
pub says_at : {S : Type 0} (line : LineWords) (r now : RecordsNow S) (new : Dial) (kind : CallKind) (time room : ℕ) (answer : DialNow) → r ≡ now → room ≡ room_of r.scripts.log
    → new.policy ≡ r.dial.policy → Adds r.dial new kind time room answer → OneAnswer → DialStands line now → answer ≡ says line kind time now
says_at line r now new kind time room answer v e p goes one h =
    subst (λ (x : RecordsNow _). answer ≡ says line kind time x) v
    (says_is line r new kind time room answer e p goes one (subst (λ (x : RecordsNow _). DialStands line x) (sym v) h))

-- WHICH CALL IT WAS

pub start_call : (line : LineWords) (past : List Mark) → doing_in past ≡ New → is_call past ≡ false → call_behind line past ≡ Start
start_call line [] e q = refl
start_call line (m ∷ past) e q = grind arith

pub wake_call : (line : LineWords) (past : List Mark) → doing_in past ≡ Waits → is_call past ≡ false → call_behind line past ≡ Wake
wake_call line [] e q = absurd (cc e)
wake_call line (m ∷ past) e q = grind arith

pub tick_call : (line : LineWords) (until : ℕ) (past : List Mark) → doing_in past ≡ Holds until → is_call past ≡ false → call_behind line past ≡ Tick
tick_call line until [] e q = absurd (cc e)
tick_call line until (m ∷ past) e q = grind arith

pub over_call : (line : LineWords) (past : List Mark) (time session : ℕ) (live : Bool) → call_behind line (over_mark time live session ∷ past) ≡ SessionOver (end_by line live (cause_in past))
over_call line past time session true = refl
over_call line past time session false = refl

stop_number : (n : ℕ) → 2 ≤ n → signal_call n ≡ Stop
stop_number n le = grind arith

-- THE DIAL STANDS FOR ITS CALLS WITH THE ONE THAT THE NEW MARK IS

-- A call that is passed over leaves the dial as it was, unless it ends a session or stops the link.
abbrev pub leaves_it : CallKind → Bool
leaves_it Start = true
leaves_it Wake = true
leaves_it Hup = true
leaves_it Tick = true
leaves_it (SessionOver end) = false
leaves_it Stop = false

passed_over : (kind : CallKind) (new : Dial) (time room : ℕ) (calls : List Happened) → leaves_it kind ≡ true
    → StandsFor nothing_yet new (happened kind time room Nothing ∷ calls) → StandsFor nothing_yet new calls
passed_over Start new time room calls q h = record { state = h.state; law = h.law.1 }
passed_over Wake new time room calls q h = record { state = h.state; law = h.law.1 }
passed_over Hup new time room calls q h = record { state = h.state; law = h.law.1 }
passed_over Tick new time room calls q h = record { state = h.state; law = h.law.1 }
passed_over (SessionOver end) new time room calls q h = absurd (cc q)
passed_over Stop new time room calls q h = absurd (cc q)

-- An answer other than Nothing, which its mark tells, or one that is passed over.
pub answer_stands : {S : Type 0} (line : LineWords) (r : RecordsNow S) (new : Dial) (kind : CallKind) (time : ℕ) (answer : DialNow)
    → (is_nothing answer ≡ false → call_behind line r.scripts.log.past ≡ kind) → (is_nothing answer ≡ true → leaves_it kind ≡ true)
    → StandsFor nothing_yet new (happened kind time (room_of r.scripts.log) answer ∷ dialled_in line r.scripts.log.limit r.scripts.log.past)
    → DialStands line (record (answer_marked answer time r) { dial = new })
answer_stands line r new kind time Nothing e q h = record { stands = passed_over kind new time _ _ (q refl) h }
answer_stands line r new kind time Begin e q h =
    record { stands = subst (λ (k : CallKind). StandsFor nothing_yet new (happened k time (room_of r.scripts.log) Begin ∷ dialled_in line r.scripts.log.limit r.scripts.log.past)) (sym (e refl)) h }
answer_stands line r new kind time (Hold ms) e q h =
    record { stands = subst (λ (k : CallKind). StandsFor nothing_yet new (happened k time (room_of r.scripts.log) (Hold ms) ∷ dialled_in line r.scripts.log.limit r.scripts.log.past)) (sym (e refl)) h }
answer_stands line r new kind time Wait e q h =
    record { stands = subst (λ (k : CallKind). StandsFor nothing_yet new (happened k time (room_of r.scripts.log) Wait ∷ dialled_in line r.scripts.log.limit r.scripts.log.past)) (sym (e refl)) h }
answer_stands line r new kind time (Finish status) e q h =
    record { stands = subst (λ (k : CallKind). StandsFor nothing_yet new (happened k time (room_of r.scripts.log) (Finish status) ∷ dialled_in line r.scripts.log.limit r.scripts.log.past)) (sym (e refl)) h }

-- at the room that the log has
pub answer_told : {S : Type 0} (line : LineWords) (r : RecordsNow S) (new : Dial) (kind : CallKind) (time room : ℕ) (answer : DialNow) → room ≡ room_of r.scripts.log
    → Adds r.dial new kind time room answer → (is_nothing answer ≡ false → call_behind line r.scripts.log.past ≡ kind) → (is_nothing answer ≡ true → leaves_it kind ≡ true)
    → DialStands line r → DialStands line (record (answer_marked answer time r) { dial = new })
answer_told line r new kind time room answer er goes e q h =
    answer_stands line r new kind time answer e q
    (subst (λ (n : ℕ). StandsFor nothing_yet new (happened kind time n answer ∷ dialled_in line r.scripts.log.limit r.scripts.log.past)) er (goes nothing_yet _ h.stands))

-- A start, a wake, a tick.
pub start_stands : {S : Type 0} (line : LineWords) (r : RecordsNow S) (new : Dial) (time room : ℕ) (answer : DialNow) → IsInStep r.dial (doing_in r.scripts.log.past)
    → (is_at_rest (doing_in r.scripts.log.past) ≡ true → is_call r.scripts.log.past ≡ false) → room ≡ room_of r.scripts.log → Adds r.dial new Start time room answer → OneAnswer
    → DialStands line r → DialStands line (record (answer_marked answer time r) { dial = new })
start_stands line r new time room answer step rests er goes one h =
    answer_told line r new Start time room answer er goes
    (λ n. let e : doing_in r.scripts.log.past ≡ New = start_where r.dial new _ time room answer step goes one n in
    start_call line r.scripts.log.past e (rests (ap is_at_rest e))) (λ _. refl) h

pub wake_stands : {S : Type 0} (line : LineWords) (r : RecordsNow S) (new : Dial) (time room : ℕ) (answer : DialNow) → IsInStep r.dial (doing_in r.scripts.log.past)
    → (is_at_rest (doing_in r.scripts.log.past) ≡ true → is_call r.scripts.log.past ≡ false) → room ≡ room_of r.scripts.log → Adds r.dial new Wake time room answer → OneAnswer
    → DialStands line r → DialStands line (record (answer_marked answer time r) { dial = new })
wake_stands line r new time room answer step rests er goes one h =
    answer_told line r new Wake time room answer er goes
    (λ n. let e : doing_in r.scripts.log.past ≡ Waits = wake_where r.dial new _ time room answer step goes one n in
    wake_call line r.scripts.log.past e (rests (ap is_at_rest e))) (λ _. refl) h

pub tick_stands : {S : Type 0} (line : LineWords) (r : RecordsNow S) (new : Dial) (time room : ℕ) (answer : DialNow) → IsInStep r.dial (doing_in r.scripts.log.past)
    → (is_at_rest (doing_in r.scripts.log.past) ≡ true → is_call r.scripts.log.past ≡ false) → room ≡ room_of r.scripts.log → Adds r.dial new Tick time room answer → OneAnswer
    → DialStands line r → DialStands line (record (answer_marked answer time r) { dial = new })
tick_stands line r new time room answer step rests er goes one h =
    answer_told line r new Tick time room answer er goes
    (λ n. let found : (until : ℕ) × (doing_in r.scripts.log.past ≡ Holds until) = tick_where r.dial new _ time room answer step goes one n in
    tick_call line found.0 r.scripts.log.past found.1 (rests (ap is_at_rest found.1))) (λ _. refl) h

-- A hang-up in a hold, behind its signal's mark.
pub hup_stands : {S : Type 0} (line : LineWords) (r : RecordsNow S) (new : Dial) (time room : ℕ) (answer : DialNow) → room ≡ room_of (marked_with (signal_mark time word.Hup) r).scripts.log
    → Adds r.dial new Hup time room answer → DialStands line r → DialStands line (record (answer_marked answer time (marked_with (signal_mark time word.Hup) r)) { dial = new })
hup_stands line r new time room answer er goes h =
    answer_told line (marked_with (signal_mark time word.Hup) r) new Hup time room answer er goes (λ _. refl) (λ _. refl) (record { stands = h.stands })

pub hup_says : {S : Type 0} (line : LineWords) (r now : RecordsNow S) (new : Dial) (time room : ℕ) (answer : DialNow) → r ≡ now
    → room ≡ room_of (marked_with (signal_mark time word.Hup) r).scripts.log → new.policy ≡ r.dial.policy → Adds r.dial new Hup time room answer → OneAnswer → DialStands line now
    → answer ≡ says line Hup time (marked_with (signal_mark time word.Hup) now)
hup_says line r now new time room answer v e p goes one h =
    subst (λ (x : RecordsNow _). answer ≡ says line Hup time (marked_with (signal_mark time word.Hup) x)) v
    (says_is line (marked_with (signal_mark time word.Hup) r) new Hup time room answer e p goes one (record { stands = (subst (λ (x : RecordsNow _). DialStands line x) (sym v) h).stands }))

-- The end of a session, behind its mark.
pub over_says : {S : Type 0} (line : LineWords) (r : RecordsNow S) (new : Dial) (time room session : ℕ) (live : Bool) (end : SessionEnd) (answer : DialNow)
    → end ≡ end_by line live (cause_in r.scripts.log.past) → room ≡ room_of (marked_with (over_mark time live session) r).scripts.log → new.policy ≡ r.dial.policy
    → Adds r.dial new (SessionOver end) time room answer → OneAnswer → DialStands line r
    → answer ≡ says line (SessionOver (end_by line live (cause_in r.scripts.log.past))) time (marked_with (over_mark time live session) r)
over_says line r new time room session live end answer ec er p goes one h =
    says_is line (marked_with (over_mark time live session) r) new (SessionOver end) time room answer er p goes one (record { stands = h.stands })
    ∙ ap (λ (e : SessionEnd). says line (SessionOver e) time (marked_with (over_mark time live session) r)) ec

pub over_stands : {S : Type 0} (line : LineWords) (r : RecordsNow S) (new : Dial) (time room session : ℕ) (live : Bool) (end : SessionEnd) (answer : DialNow)
    → end ≡ end_by line live (cause_in r.scripts.log.past) → is_nothing answer ≡ false → room ≡ room_of (marked_with (over_mark time live session) r).scripts.log
    → Adds r.dial new (SessionOver end) time room answer → DialStands line r
    → DialStands line (record (answer_marked answer time (marked_with (over_mark time live session) r)) { dial = new })
over_stands line r new time room session live end answer ec n er goes h =
    answer_told line (marked_with (over_mark time live session) r) new (SessionOver end) time room answer er goes
    (λ _. over_call line r.scripts.log.past time session live ∙ ap SessionOver (sym ec)) (λ e. absurd (cc (e, n))) (record { stands = h.stands })

-- A STOP

stops_so : (past : List Mark) (time : ℕ) (w : SignalWord) → 2 ≤ signal_number w → stops_session (signal_mark time w) past ≡ is_session (doing_in past)
stops_so past time word.Hup le = absurd (omega (arith, le))
stops_so past time word.Int le = refl
stops_so past time word.Term le = refl
stops_so past time word.Usr1 le = refl
stops_so past time word.Usr2 le = refl

-- the calls with the signal's mark
stops_if : (line : LineWords) (limit : ℕ) (past : List Mark) (time : ℕ) (w : SignalWord) (lasts : Bool) → 2 ≤ signal_number w → is_session (doing_in past) ≡ lasts
    → dialled_in line limit (signal_mark time w ∷ past) ≡ dialled_by None lasts line (limit - length past) time past (dialled_in line limit past)
stops_if line limit past time w lasts le e =
    ap (λ (b : Bool). dialled_by None b line (limit - length past) time past (dialled_in line limit past)) (stops_so past time w le ∙ e)

pub stop_says : {S : Type 0} (line : LineWords) (r : RecordsNow S) (new : Dial) (time : ℕ) (w : SignalWord) (answer : DialNow) (lasts : Bool) → is_session (doing_in r.scripts.log.past) ≡ lasts
    → 2 ≤ signal_number w → new.policy ≡ r.dial.policy → ((at room : ℕ) → Adds r.dial new Stop at room answer) → OneAnswer → DialStands line r
    → answer ≡ says line Stop time (marked_with (signal_mark time w) r)
stop_says line r new time w answer true e le p goes one h =
    let calls : List Happened = dialled_in line r.scripts.log.limit r.scripts.log.past in
    is_answer r.dial new Stop time 0 answer calls (goes time 0) one h.stands
    ∙ (ap (λ (policy : DialPolicy). answer_to policy (so_far nothing_yet calls) (asked Stop time 0)) p
    ∙ ap (λ (l : List Happened). answer_to r.dial.policy (so_far nothing_yet l) (asked Stop time 0)) (sym (stops_if line r.scripts.log.limit r.scripts.log.past time w true le e)))
stop_says line r new time w answer false e le p goes one h =
    let calls : List Happened = dialled_in line r.scripts.log.limit r.scripts.log.past in
    is_answer r.dial new Stop time 0 answer calls (goes time 0) one h.stands
    ∙ (ap (λ (policy : DialPolicy). answer_to policy (so_far nothing_yet calls) (asked Stop time 0)) p
    ∙ ap (λ (l : List Happened). answer_to r.dial.policy (so_far nothing_yet l) (asked Stop time 0)) (sym (stops_if line r.scripts.log.limit r.scripts.log.past time w false le e)))

stop_stands_by : {S : Type 0} (line : LineWords) (r : RecordsNow S) (new : Dial) (time : ℕ) (w : SignalWord) (answer : DialNow) (lasts : Bool) → is_session (doing_in r.scripts.log.past) ≡ lasts
    → 2 ≤ signal_number w → answer ≡ (if lasts then Nothing else Finish 5) → ((at room : ℕ) → Adds r.dial new Stop at room answer) → DialStands line r
    → DialStands line (record (answer_marked answer time (marked_with (signal_mark time w) r)) { dial = new })
stop_stands_by line r new time w Nothing true e le a goes h =
    record {
      stands = subst (λ (l : List Happened). StandsFor nothing_yet new l) (sym (stops_if line r.scripts.log.limit r.scripts.log.past time w true le e))
          (goes time (r.scripts.log.limit - length r.scripts.log.past) nothing_yet _ h.stands);
    }
stop_stands_by line r new time w Begin true e le a goes h = absurd (cc a)
stop_stands_by line r new time w (Hold ms) true e le a goes h = absurd (cc a)
stop_stands_by line r new time w Wait true e le a goes h = absurd (cc a)
stop_stands_by line r new time w (Finish status) true e le a goes h = absurd (cc a)
stop_stands_by line r new time w Nothing false e le a goes h = absurd (cc a)
stop_stands_by line r new time w Begin false e le a goes h = absurd (cc a)
stop_stands_by line r new time w (Hold ms) false e le a goes h = absurd (cc a)
stop_stands_by line r new time w Wait false e le a goes h = absurd (cc a)
stop_stands_by line r new time w (Finish status) false e le a goes h =
    let room : ℕ = room_of (marked_with (signal_mark time w) r).scripts.log in
    record {
      stands = subst (λ (k : CallKind). StandsFor nothing_yet new (happened k time room (Finish status) ∷ dialled_in line r.scripts.log.limit (signal_mark time w ∷ r.scripts.log.past)))
          (sym (stop_number (signal_number w) le))
          (subst (λ (l : List Happened). StandsFor nothing_yet new (happened Stop time room (Finish status) ∷ l)) (sym (stops_if line r.scripts.log.limit r.scripts.log.past time w false le e))
          (goes time room nothing_yet _ h.stands));
    }

pub stop_stands : {S : Type 0} (line : LineWords) (r : RecordsNow S) (new : Dial) (time : ℕ) (w : SignalWord) (answer : DialNow) → IsInStep r.dial (doing_in r.scripts.log.past)
    → status_by (doing_in r.scripts.log.past) ≡ None → 2 ≤ signal_number w → ((at room : ℕ) → Adds r.dial new Stop at room answer) → OneAnswer → DialStands line r
    → DialStands line (record (answer_marked answer time (marked_with (signal_mark time w) r)) { dial = new })
stop_stands line r new time w answer step lives le goes one h =
    stop_stands_by line r new time w answer (is_session (doing_in r.scripts.log.past)) refl le (stop_where r.dial new _ time 0 answer step (goes time 0) one lives) goes h

-- OF THE RECORDS BY ANOTHER NAME

pub stop_at : {S : Type 0} (line : LineWords) (r now : RecordsNow S) (new : Dial) (time : ℕ) (w : SignalWord) (answer : DialNow) → r ≡ now → 2 ≤ signal_number w
    → new.policy ≡ r.dial.policy → ((at room : ℕ) → Adds r.dial new Stop at room answer) → OneAnswer → DialStands line now
    → answer ≡ says line Stop time (marked_with (signal_mark time w) now)
stop_at line r now new time w answer v le p goes one h =
    subst (λ (x : RecordsNow _). answer ≡ says line Stop time (marked_with (signal_mark time w) x)) v
    (stop_says line r new time w answer (is_session (doing_in r.scripts.log.past)) refl le p goes one (subst (λ (x : RecordsNow _). DialStands line x) (sym v) h))

-- the mark of a session's end, by what the marks before it tell
abbrev pub over_told : {S : Type 0} → ℕ → RecordsNow S → RecordsNow S
over_told time r = marked_with (over_mark time (told r).was_live (told r).session) r

pub over_at : {S : Type 0} (line : LineWords) (r now : RecordsNow S) (new : Dial) (time room : ℕ) (end : SessionEnd) (answer : DialNow) → r ≡ now
    → end ≡ end_by line (told r).was_live (told r).cause → room ≡ room_of (over_told time r).scripts.log → new.policy ≡ r.dial.policy
    → Adds r.dial new (SessionOver end) time room answer → OneAnswer → DialStands line now
    → answer ≡ says line (SessionOver (end_by line (told now).was_live (told now).cause)) time (over_told time now)
over_at line r now new time room end answer v ec er p goes one h =
    subst (λ (x : RecordsNow _). answer ≡ says line (SessionOver (end_by line (told x).was_live (told x).cause)) time (over_told time x)) v
    (over_says line r new time room (told r).session (told r).was_live end answer ec er p goes one (subst (λ (x : RecordsNow _). DialStands line x) (sym v) h))
