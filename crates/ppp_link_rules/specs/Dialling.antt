-- When a link dials (pppd(8), "persist", "demand", "holdoff" and "maxfail"): the calls of its dial and their answers are read off the marks.
use Rattle.std.specs.Prelude.{ℕ, ◌-◌, ◌==◌, ◌&&◌, nat_le, Bool, true, false, if◌then◌else◌, Option, None, Some, List, [], ◌∷◌, length}
use Rattle.ppp_dial.specs.declared.call.CallKind.{CallKind}
use Rattle.ppp_dial.specs.declared.call.CallKind.TheVariants.{Start, Wake, Hup, Tick, SessionOver, Stop}
use Rattle.ppp_dial.specs.declared.now.DialNow.{DialNow}
use Rattle.ppp_dial.specs.declared.now.DialNow.TheVariants.{Nothing, Begin, Hold, Wait, Finish}
use Rattle.ppp_dial.specs.declared.session_end.SessionEnd.{SessionEnd}
use Rattle.ppp_dial.specs.Answer.{answer_to}
use Rattle.ppp_dial.specs.DialLaw.{DialLaw}
use Rattle.ppp_dial.specs.Happened.{Happened, asked, happened}
use Rattle.ppp_dial.specs.LookingBack.{SoFar, so_far, nothing_yet}
use Rattle.ppp_outside.specs.declared.line_words.LineWords.{LineWords}
use Rattle.ppp_mark.specs.declared.mark.Mark.{Mark}
use Rattle.ppp_mark.specs.declared.kind.TheConstants.{ATTEMPT, SIGNAL, OVER, HOLD, WAIT, FINISHED}
use Rattle.ppp_mark.specs.Log.{room_of}
use Rattle.ppp_link_rules.specs.declared.cause.Cause.{Cause}
use Rattle.ppp_link_rules.specs.CauseStatus.{CauseStatus}
use Rattle.ppp_link_rules.specs.Marks.{Doing, New, Dials, HasLine, IsOver, Holds, Waits, HasFinished, cause_in, doing_in, is_session}
use Rattle.ppp_link_rules.specs.LinkState.{LinkState}
use Rattle.ppp_link_rules.specs.Wishes.{dial_policy}

-- the answer of the dial that a mark is
abbrev pub answer_of : Mark → Option DialNow
answer_of m =
    if m.kind == ATTEMPT then Some Begin
    else if m.kind == HOLD then Some (Hold m.z)
    else if m.kind == WAIT then Some Wait
    else if m.kind == FINISHED then Some (Finish m.x)
    else None

-- how a session ended, by its cause and its over mark
abbrev pub cause_number : Option Cause → ℕ
cause_number None = 0
cause_number (Some c) = c.number

abbrev pub end_by : LineWords → Bool → Option Cause → SessionEnd
end_by line live c = record { cause = cause_number c; status = CauseStatus line live c; live = live }

-- Which call was answered so, by what the link did before: a session was over; a signal came; the time of a hold; a wake in a wait; the first start.
abbrev pub call_by : Doing → CallKind
call_by New = Start
call_by Dials = Start
call_by HasLine = Start
call_by IsOver = Start
call_by (Holds until) = Tick
call_by Waits = Wake
call_by (HasFinished status) = Start

abbrev pub signal_call : ℕ → CallKind
signal_call number = if number == 1 then Hup else Stop

abbrev pub call_behind : LineWords → List Mark → CallKind
call_behind line [] = Start
call_behind line (m ∷ past) =
    if m.kind == OVER then SessionOver (end_by line (m.x == 1) (cause_in past))
    else if m.kind == SIGNAL then signal_call m.x
    else call_by (doing_in (m ∷ past))

-- A signal to stop in a session is a Stop that is answered Nothing.
abbrev pub stops_session : Mark → List Mark → Bool
stops_session m past = m.kind == SIGNAL && (nat_le 2 m.x && is_session (doing_in past))

abbrev pub dialled_by : Option DialNow → Bool → LineWords → ℕ → ℕ → List Mark → List Happened → List Happened
dialled_by (Some answer) stops line room time past calls = happened (call_behind line past) time room answer ∷ calls
dialled_by None true line room time past calls = happened Stop time room Nothing ∷ calls
dialled_by None false line room time past calls = calls

-- the calls of the dial, the newest first, in a log that may have so many marks
abbrev pub dialled_in : LineWords → ℕ → List Mark → List Happened
dialled_in line limit [] = []
dialled_in line limit (m ∷ past) = dialled_by (answer_of m) (stops_session m past) line (limit - length past) m.time past (dialled_in line limit past)

-- The marks keep the law of dialling, where `before` is what the calls before them came to.
pub record DialsLawfully (before : SoFar) (s : LinkState) : Type 0 where
  pub law : DialLaw (dial_policy s.config) before (dialled_in s.config.line s.log.limit s.log.past)

-- what the dial has come to
abbrev pub dial_so_far : LinkState → SoFar
dial_so_far s = so_far nothing_yet (dialled_in s.config.line s.log.limit s.log.past)

-- what the dial answers to a call now
abbrev pub dial_says : CallKind → LinkState → DialNow
dial_says kind s = answer_to (dial_policy s.config) (dial_so_far s) (asked kind s.time (room_of s.log))
