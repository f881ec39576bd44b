-- What looking back over the calls of a dial gives: a last, a count since a last, and whether there was one.
use Rattle.std.specs.Prelude.{ℕ, ◌+◌, ◌||◌, nat_le, Bool, true, false, if◌then◌else◌, Option, None, Some, List, [], ◌∷◌}
use Rattle.ppp_dial.specs.declared.now.DialNow.{DialNow}
use Rattle.ppp_dial.specs.declared.now.DialNow.TheVariants.{Nothing, Begin, Hold, Wait, Finish}
use Rattle.ppp_dial.specs.declared.call.CallKind.{CallKind}
use Rattle.ppp_dial.specs.declared.call.CallKind.TheVariants.{SessionOver, Stop}
use Rattle.ppp_dial.specs.Happened.{Happened}

-- The last answer that wasn't Nothing, with its moment, or Nothing where there was none; how many sessions were over that weren't live, since the
-- last that was; and whether a stop was called.
pub record SoFar : Type 0 where
  pub last : DialNow × ℕ
  pub failures : ℕ
  pub stopped : Bool

-- before the first call of all
abbrev pub nothing_yet : SoFar
nothing_yet = record { last = (Nothing, 0); failures = 0; stopped = false }

abbrev pub is_nothing : DialNow → Bool
is_nothing Nothing = true
is_nothing _ = false

abbrev pub is_stop : CallKind → Bool
is_stop Stop = true
is_stop _ = false

-- A list may be one part of a longer one. Then `before` is what looking back over the parts before it gives.
abbrev pub last_in : SoFar → List Happened → DialNow × ℕ
last_in before [] = before.last
last_in before (h ∷ past) = if is_nothing h.answer then last_in before past else (h.answer, h.call.at)

-- the failures in a row, this call counted
abbrev pub failures_with : CallKind → ℕ → ℕ
failures_with (SessionOver end) failures = if end.live then 0 else failures + 1
failures_with _ failures = failures

abbrev pub failures_in : SoFar → List Happened → ℕ
failures_in before [] = before.failures
failures_in before (h ∷ past) = failures_with h.call.kind (failures_in before past)

abbrev pub is_stopped_in : SoFar → List Happened → Bool
is_stopped_in before [] = before.stopped
is_stopped_in before (h ∷ past) = is_stop h.call.kind || is_stopped_in before past

abbrev pub so_far : SoFar → List Happened → SoFar
so_far before past = record { last = last_in before past; failures = failures_in before past; stopped = is_stopped_in before past }

-- What the dial does is told by that answer: it is new, an attempt is under way, it holds until a moment, it waits, or it has finished with a status.
abbrev pub was_begun : DialNow × ℕ → Bool
was_begun (Begin, at) = true
was_begun _ = false

abbrev pub hold_since : DialNow × ℕ → Option ℕ
hold_since (Hold ms, at) = Some (at + ms)
hold_since _ = None

abbrev pub was_to_wait : DialNow × ℕ → Bool
was_to_wait (Wait, at) = true
was_to_wait _ = false

abbrev pub status_of : DialNow × ℕ → Option ℕ
status_of (Finish status, at) = Some status
status_of _ = None

abbrev pub is_new : SoFar → Bool
is_new s = is_nothing s.last.0

abbrev pub is_under_way : SoFar → Bool
is_under_way s = was_begun s.last

abbrev pub holds_until : SoFar → Option ℕ
holds_until s = hold_since s.last

abbrev pub is_waiting : SoFar → Bool
is_waiting s = was_to_wait s.last

abbrev pub finished_with : SoFar → Option ℕ
finished_with s = status_of s.last
