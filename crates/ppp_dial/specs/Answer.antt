-- The answer to each call by the order of the rules (pppd(8), "persist", "demand", "holdoff" and "maxfail").
use Rattle.std.specs.Prelude.{ℕ, ◌*◌, ◌==◌, ◌||◌, not, nat_lt, Bool, if◌then◌else◌, is_some}
use Rattle.ppp_dial.specs.declared.now.DialNow.{DialNow}
use Rattle.ppp_dial.specs.declared.now.DialNow.TheVariants.{Nothing, Begin, Hold, Wait, Finish}
use Rattle.ppp_dial.specs.declared.policy.DialPolicy.{DialPolicy}
use Rattle.ppp_dial.specs.declared.session_end.SessionEnd.{SessionEnd}
use Rattle.ppp_dial.specs.declared.call.CallKind.{CallKind}
use Rattle.ppp_dial.specs.declared.call.CallKind.TheVariants.{Start, Wake, Hup, Tick, SessionOver, Stop}
use Rattle.ppp_dial.specs.DialLaw.{has_failed_often}
use Rattle.ppp_dial.specs.Happened.{DialCall}
use Rattle.ppp_dial.specs.LookingBack.{SoFar, failures_with, is_new, is_under_way, holds_until, is_waiting, finished_with}
use Rattle.ppp_timer.specs.Due.{has_come}

-- an attempt, where there is room
abbrev pub attempt : ℕ → DialNow
attempt room = if nat_lt room 1024 then Finish 34 else Begin

-- under `demand` a wait, else an attempt
abbrev pub next : DialPolicy → ℕ → DialNow
next policy room = if policy.demand then Wait else attempt room

-- A session is over. The count of failures is that with this session.
abbrev pub after_session : DialPolicy → Bool → ℕ → SessionEnd → ℕ → DialNow
after_session policy stopped failures end room =
    if stopped then Finish 5
    else if not policy.persist then Finish end.status
    else if has_failed_often policy.maxfail failures then Finish end.status
    else if end.cause == 12 then next policy room
    else if policy.holdoff_s == 0 then next policy room
    else Hold (policy.holdoff_s * 1000)

abbrev pub answer_by : CallKind → DialPolicy → SoFar → ℕ → ℕ → DialNow
answer_by Start policy s at room = if is_new s then next policy room else Nothing
answer_by Wake policy s at room = if is_waiting s then attempt room else Nothing
answer_by Hup policy s at room = if is_some (holds_until s) then next policy room else Nothing
answer_by Tick policy s at room = if has_come at (holds_until s) then next policy room else Nothing
answer_by (SessionOver end) policy s at room = after_session policy s.stopped (failures_with (SessionOver end) s.failures) end room
answer_by Stop policy s at room = if is_under_way s || is_some (finished_with s) then Nothing else Finish 5

abbrev pub answer_to : DialPolicy → SoFar → DialCall → DialNow
answer_to policy s call = answer_by call.kind policy s call.at call.room
