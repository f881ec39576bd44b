-- Which answers a dial may give over a list of calls (pppd(8), "persist", "demand", "holdoff" and "maxfail").
use Rattle.std.specs.Prelude.{ℕ, ◌*◌, ◌≡◌, ◌==◌, ◌&&◌, ◌||◌, not, nat_le, nat_lt, Bool, true, false, if◌then◌else◌, Option, None, Some, is_some, is_none, List, [], ◌∷◌, ⊤}
use Rattle.ppp_dial.specs.declared.now.DialNow.{DialNow}
use Rattle.ppp_dial.specs.declared.now.DialNow.TheVariants.{Nothing, Begin, Hold, Wait, Finish}
use Rattle.ppp_dial.specs.declared.policy.DialPolicy.{DialPolicy}
use Rattle.ppp_dial.specs.declared.session_end.SessionEnd.{SessionEnd}
use Rattle.ppp_dial.specs.declared.call.CallKind.{CallKind}
use Rattle.ppp_dial.specs.declared.call.CallKind.TheVariants.{Start, Wake, Hup, Tick, SessionOver, Stop}
use Rattle.ppp_dial.specs.Happened.{DialCall, Happened}
use Rattle.ppp_dial.specs.LookingBack.{SoFar, failures_with, so_far, is_new, is_under_way, holds_until, is_waiting, finished_with}
use Rattle.ppp_timer.specs.Due.{has_come}

-- `maxfail` is a limit on the failures in a row, unless it is 0.
abbrev pub has_failed_often : ℕ → ℕ → Bool
has_failed_often maxfail failures = not (maxfail == 0) && nat_le maxfail failures

-- With which status a link finishes at a session's end, which counts as a failure too where it is one: after a stop with 5; else, without `persist` or
-- by `maxfail`, with the session's.
abbrev pub last_status : DialPolicy → SoFar → SessionEnd → Option ℕ
last_status policy s end =
    if s.stopped then Some 5
    else if not policy.persist || has_failed_often policy.maxfail (failures_with (SessionOver end) s.failures) then Some end.status
    else None

-- whether the link dials again after a session's end
abbrev pub is_survived : DialPolicy → SoFar → SessionEnd → Bool
is_survived policy s end = is_under_way s && is_none (last_status policy s end)

-- Behind an idle end there is no hold, nor where `holdoff` is 0.
abbrev pub needs_no_hold : DialPolicy → SessionEnd → Bool
needs_no_hold policy end = end.cause == 12 || policy.holdoff_s == 0

-- Whether it is time for an attempt, or under `demand` for a wait: at the first start; in a hold at a hang-up, and at a moment from its end on;
-- at a session's end with no hold behind it.
abbrev pub is_time_at : CallKind → DialPolicy → SoFar → ℕ → Bool
is_time_at Start policy s at = is_new s
is_time_at Hup policy s at = is_some (holds_until s)
is_time_at Tick policy s at = has_come at (holds_until s)
is_time_at (SessionOver end) policy s at = is_survived policy s end && needs_no_hold policy end
is_time_at _ policy s at = false

abbrev pub is_time : DialPolicy → SoFar → DialCall → Bool
is_time policy s call = is_time_at call.kind policy s call.at

abbrev pub is_woken_by : CallKind → SoFar → Bool
is_woken_by Wake s = is_waiting s
is_woken_by _ s = false

-- Whether an attempt would begin: out of a wait only by a wake, else where it is time, without `demand`.
abbrev pub would_begin : DialPolicy → SoFar → DialCall → Bool
would_begin policy s call = is_woken_by call.kind s || is_time policy s call && not policy.demand

-- whether a session's end leads to a hold
abbrev pub leads_to_hold : CallKind → DialPolicy → SoFar → Bool
leads_to_hold (SessionOver end) policy s = is_survived policy s end && not (needs_no_hold policy end)
leads_to_hold _ policy s = false

-- with which status a session's end, or a stop while no attempt is under way, finishes the link
abbrev pub finishes_with : CallKind → DialPolicy → SoFar → Option ℕ
finishes_with (SessionOver end) policy s = if is_under_way s then last_status policy s end else None
finishes_with Stop policy s = if is_under_way s || is_some (finished_with s) then None else Some 5
finishes_with _ policy s = None

abbrev pub is_status : ℕ → Option ℕ → Bool
is_status status None = false
is_status status (Some other) = other == status

-- Passed over are a start after the first, a wake outside a wait, a hang-up outside a hold, a tick outside a hold or before its end, a stop while an
-- attempt is under way, and each of them after the link has finished.
abbrev pub is_passed_over : CallKind → SoFar → ℕ → Bool
is_passed_over Start s at = not (is_new s)
is_passed_over Wake s at = not (is_waiting s)
is_passed_over Hup s at = is_none (holds_until s)
is_passed_over Tick s at = not (has_come at (holds_until s))
is_passed_over (SessionOver end) s at = false
is_passed_over Stop s at = is_under_way s || is_some (finished_with s)

-- Whether a call may be answered so, where looking back from it gives this. An attempt has room of at least 1,024; where one would begin with less,
-- the link finishes with 34.
abbrev pub is_allowed : DialPolicy → SoFar → DialCall → DialNow → Bool
is_allowed policy s call Begin = would_begin policy s call && nat_le 1024 call.room
is_allowed policy s call Wait = is_time policy s call && policy.demand
is_allowed policy s call (Hold ms) = leads_to_hold call.kind policy s && ms == policy.holdoff_s * 1000
is_allowed policy s call (Finish status) =
    is_status status (finishes_with call.kind policy s) || would_begin policy s call && nat_lt call.room 1024 && status == 34
is_allowed policy s call Nothing = is_passed_over call.kind s call.at

-- A session's end is told only while an attempt is under way.
abbrev pub MayCome : CallKind → SoFar → Type 0
MayCome (SessionOver end) s = is_under_way s ≡ true
MayCome _ s = ⊤

-- The law of dialling: each call was answered as the calls before it allow. The newest call comes first; `before` is what came before the list.
abbrev pub DialLaw : DialPolicy → SoFar → List Happened → Type 0
DialLaw policy before [] = ⊤
DialLaw policy before (h ∷ past) = (is_allowed policy (so_far before past) h.call h.answer ≡ true) × DialLaw policy before past
