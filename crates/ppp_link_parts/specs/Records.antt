-- What contracts see of a link's records: its scripts with their log, and its dial. What else is kept of the log is what its marks tell.
use Rattle.std.specs.Prelude.{ℕ, ◌+◌, ◌==◌, ◌≤◌, ◌≡◌, ◌≢◌, ◌||◌, Bool, true, false, List, [], ◌∷◌, length}
use Rattle.ppp_base.specs.declared.hook_target.HookTarget.{HookTarget}
use Rattle.ppp_base.specs.declared.hook_target.HookTarget.TheVariants.{Link}
use Rattle.ppp_dial.specs.Answer.{answer_to}
use Rattle.ppp_dial.specs.declared.call.CallKind.{CallKind}
use Rattle.ppp_dial.specs.declared.dial.Dial.{Dial}
use Rattle.ppp_dial.specs.declared.now.DialNow.{DialNow}
use Rattle.ppp_dial.specs.declared.now.DialNow.TheVariants as answer
use Rattle.ppp_dial.specs.LookingBack.{nothing_yet, so_far}
use Rattle.ppp_dial.specs.DialState.{StandsFor}
use Rattle.ppp_dial.specs.Happened.{Happened, asked}
use Rattle.ppp_dial.specs.declared.stage.Stage.{Stage}
use Rattle.ppp_dial.specs.declared.stage.Stage.TheVariants as stage
use Rattle.ppp_outside.specs.declared.line_words.LineWords.{LineWords}
use Rattle.ppp_mark.specs.declared.mark.Mark.{Mark}
use Rattle.ppp_mark.specs.declared.kind.TheConstants.{ATTEMPT, LCP_OPEN, ASKED, SIGNAL, OVER}
use Rattle.ppp_mark.specs.Log.{LogState, added, room_of}
use Rattle.ppp_mark.specs.Marks.{attempt_mark, finished_mark, hold_mark, wait_mark}
use Rattle.ppp_mark.specs.ScriptLog.{ScriptLogState}
use Rattle.ppp_link_parts.specs.declared.control.Control.{Control}
use Rattle.ppp_link_parts.specs.declared.control.Doing.{Doing as KeptDoing}
use Rattle.ppp_link_parts.specs.declared.control.Doing.TheVariants as kept
use Rattle.ppp_link_rules.specs.Before.{nothing_before}
use Rattle.ppp_link_rules.specs.Dialling.{dialled_in}
use Rattle.ppp_link_rules.specs.Marks.{Doing, New, Dials, HasLine, IsOver, Holds, Waits, HasFinished, cause_in, count_in, doing_in, live_in, since_in, stay_in, stopped_in, unit_in, was_live_in}
use Rattle.ppp_link_rules.specs.Replay.{Control as Told, Replay}

pub record RecordsNow (S : Type 0) : Type 0 where
  pub id : ℕ
  pub scripts : ScriptLogState S
  pub dial : Dial

-- what its log tells
abbrev pub told : {S : Type 0} → RecordsNow S → Told
told r = Replay nothing_before r.scripts.log.past

-- one more mark
abbrev pub marked_with : {S : Type 0} → Mark → RecordsNow S → RecordsNow S
marked_with mark r = record r { scripts = record r.scripts { log = added mark r.scripts.log } }

abbrev pub doing_of : KeptDoing → Doing
doing_of kept.New = New
doing_of kept.Dials = Dials
doing_of kept.HasLine = HasLine
doing_of kept.IsOver = IsOver
doing_of (kept.Holds until) = Holds until
doing_of kept.Waits = Waits
doing_of (kept.HasFinished status) = HasFinished status

-- What is kept is what the marks tell.
pub record KeepsTold (c : Control) (past : List Mark) : Type 0 where
  pub session : c.session ≡ count_in 0 ATTEMPT past
  pub doing : doing_of c.doing ≡ doing_in past
  pub stopped : c.is_stopped ≡ stopped_in past
  pub openings : c.openings ≡ count_in 0 LCP_OPEN past
  pub stays : c.stays ≡ count_in 0 ASKED past
  pub stay : c.stay ≡ stay_in past
  pub unit : c.unit ≡ unit_in past
  pub live : c.live ≡ live_in past
  pub cause : c.cause ≡ cause_in past
  pub was_live : c.was_live ≡ was_live_in past
  pub since : length past ≡ c.from + since_in past

-- Each of these counts has a mark for each that it counts.
pub record AreFew (c : Control) (past : List Mark) : Type 0 where
  pub sessions : c.session ≤ length past
  pub openings : c.openings ≤ length past
  pub stays : c.stays ≤ length past

-- A call of the dial is told by the newest mark alone where it is a signal or the end of a session. Where the link hasn't begun, holds off or waits, it is neither.
abbrev pub is_call : List Mark → Bool
is_call [] = false
is_call (m ∷ past) = m.kind == SIGNAL || m.kind == OVER

abbrev pub is_at_rest : Doing → Bool
is_at_rest New = true
is_at_rest Dials = false
is_at_rest HasLine = false
is_at_rest IsOver = false
is_at_rest (Holds until) = true
is_at_rest Waits = true
is_at_rest (HasFinished status) = false

abbrev pub IsOfLink : HookTarget → Type 0
IsOfLink target = (id : ℕ) × (target ≡ Link id)

-- what a dial does while its link does this
abbrev pub stage_by : Doing → Stage
stage_by New = stage.New
stage_by Dials = stage.Dialling
stage_by HasLine = stage.Dialling
stage_by IsOver = stage.Dialling
stage_by (Holds until) = stage.Holding until
stage_by Waits = stage.Waiting
stage_by (HasFinished status) = stage.Finished status

-- The dial stands for some calls, and does what the marks tell. What the end of a session led to is told with it.
pub record IsInStep (dial : Dial) (doing : Doing) : Type 0 where
  pub calls : List Happened
  pub stands : StandsFor nothing_yet dial calls
  pub does : dial.stage ≡ stage_by doing
  pub not_over : doing ≢ IsOver

pub record AreKept {S : Type 0} (id : ℕ) (scripts : ScriptLogState S) (dial : Dial) (c : Control) : Type 0 where
  pub target : scripts.machine.target ≡ Link id
  pub told : KeepsTold c scripts.log.past
  pub few : AreFew c scripts.log.past
  pub rests : is_at_rest (doing_in scripts.log.past) ≡ true → is_call scripts.log.past ≡ false
  pub step : IsInStep dial (doing_in scripts.log.past)

-- What the dial answers, as its mark.
abbrev pub log_answered : DialNow → ℕ → LogState → LogState
log_answered answer.Nothing time log = log
log_answered answer.Begin time log = added (attempt_mark time (count_in 0 ATTEMPT log.past + 1)) log
log_answered (answer.Hold milliseconds) time log = added (hold_mark time milliseconds) log
log_answered answer.Wait time log = added (wait_mark time) log
log_answered (answer.Finish status) time log = added (finished_mark time status) log

abbrev pub answer_marked : {S : Type 0} → DialNow → ℕ → RecordsNow S → RecordsNow S
answer_marked answer time r = record r { scripts = record r.scripts { log = log_answered answer time r.scripts.log } }

-- what it answers to a call
abbrev pub says : {S : Type 0} → LineWords → CallKind → ℕ → RecordsNow S → DialNow
says line kind time r = answer_to r.dial.policy (so_far nothing_yet (dialled_in line r.scripts.log.limit r.scripts.log.past)) (asked kind time (room_of r.scripts.log))

-- The dial stands for its calls, which the marks tell.
pub record DialStands {S : Type 0} (line : LineWords) (r : RecordsNow S) : Type 0 where
  pub stands : StandsFor nothing_yet r.dial (dialled_in line r.scripts.log.limit r.scripts.log.past)
