-- The law of dialling read at one place of a list of calls, whose newest comes first: what an answer says of the calls before it.
use Rattle.std.specs.Prelude.{ℕ, ◌+◌, ◌≡◌, ◌≢◌, ◌<◌, ◌≤◌, ◌⊎◌, ⊤, not, Bool, true, false, List, ◌∷◌}
use Rattle.ppp_dial.specs.declared.call.CallKind.{CallKind}
use Rattle.ppp_dial.specs.declared.call.CallKind.TheVariants.{Start, Wake, Hup, Tick, SessionOver, Stop}
use Rattle.ppp_dial.specs.declared.now.DialNow.{DialNow}
use Rattle.ppp_dial.specs.declared.now.DialNow.TheVariants.{Nothing, Begin, Hold, Wait, Finish}
use Rattle.ppp_dial.specs.declared.policy.DialPolicy.{DialPolicy}
use Rattle.ppp_dial.specs.declared.session_end.SessionEnd.{SessionEnd}
use Rattle.ppp_dial.specs.Happened.{Happened}
use Rattle.ppp_dial.specs.LookingBack.{SoFar, failures_in, is_stopped_in, last_in}

abbrev pub IsSessionOver : CallKind → Type 0
IsSessionOver (SessionOver end) = ⊤
IsSessionOver _ = ⊥

-- a session's end with no hold behind it: an idle one, or any where `holdoff` is 0; and one with a hold
abbrev pub EndsWithoutHold : DialPolicy → CallKind → Type 0
EndsWithoutHold policy (SessionOver end) = (end.cause ≡ 12) ⊎ (policy.holdoff_s ≡ 0)
EndsWithoutHold policy _ = ⊥

abbrev pub EndsWithHold : DialPolicy → CallKind → Type 0
EndsWithHold policy (SessionOver end) = (end.cause ≢ 12) × (0 < policy.holdoff_s)
EndsWithHold policy _ = ⊥

-- By which call, and when, an attempt or a wait follows the last answer: none by the first start; an attempt by its session's end; a hold by a hang-up,
-- or by a tick from its end on; a wait by a wake. Nothing follows a finish.
abbrev pub Follows : DialPolicy → DialNow × ℕ → CallKind → ℕ → Type 0
Follows policy (Nothing, since) kind at = kind ≡ Start
Follows policy (Begin, since) kind at = EndsWithoutHold policy kind
Follows policy (Hold ms, since) kind at = (kind ≡ Hup) ⊎ ((kind ≡ Tick) × (since + ms ≤ at))
Follows policy (Wait, since) kind at = kind ≡ Wake
Follows policy (Finish status, since) kind at = ⊥

-- so many failures in a row reach the limit `maxfail`, which isn't 0
abbrev pub IsReached : ℕ → ℕ → Type 0
IsReached maxfail failures = (0 < maxfail) × (maxfail ≤ failures)

-- After a session's end the link goes on: no stop was called, there is `persist`, and the failures, this session counted, don't reach the limit.
pub record GoesOn (policy : DialPolicy) (before : SoFar) (earlier : List Happened) (h : Happened) : Type 0 where
  pub not_stopped : is_stopped_in before earlier ≡ false
  pub persist : policy.persist ≡ true
  pub few : ¬ IsReached policy.maxfail (failures_in before (h ∷ earlier))

-- The link finishes by a stop, or at its session's end after one: with 5.
abbrev pub FinishesByStop : SoFar → List Happened → Happened → ℕ → Type 0
FinishesByStop before earlier h status = (status ≡ 5) × ((h.call.kind ≡ Stop) ⊎ (IsSessionOver h.call.kind × (is_stopped_in before earlier ≡ true)))

-- It finishes with a session, and with its status: not stopped, but without `persist` or by `maxfail`.
pub record FinishesBySession (policy : DialPolicy) (before : SoFar) (earlier : List Happened) (h : Happened) (status : ℕ) : Type 0 where
  pub of_session : SessionEnd
  pub kind : h.call.kind ≡ SessionOver of_session
  pub is : status ≡ of_session.status
  pub not_stopped : is_stopped_in before earlier ≡ false
  pub last : (policy.persist ≡ false) ⊎ IsReached policy.maxfail (failures_in before (h ∷ earlier))

-- It finishes with 34 where an attempt would begin with little room.
pub record FinishesByRoom (policy : DialPolicy) (before : SoFar) (earlier : List Happened) (h : Happened) (status : ℕ) : Type 0 where
  pub is : status ≡ 34
  pub little : h.call.room < 1024
  pub follows : Follows policy (last_in before earlier) h.call.kind h.call.at
  pub on_demand : policy.demand ≡ true → h.call.kind ≡ Wake

-- the answers that come once a stop was called
abbrev pub IsStopping : DialNow → Type 0
IsStopping answer = (answer ≡ Nothing) ⊎ (answer ≡ Finish 5)

-- a session was over that was live, or that wasn't
abbrev pub is_success : CallKind → Bool
is_success (SessionOver end) = end.live
is_success _ = false

abbrev pub is_failure : CallKind → Bool
is_failure (SessionOver end) = not end.live
is_failure _ = false
