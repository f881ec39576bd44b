-- What the marks of a link's log tell: each a count, a last or a first over the list of marks. The newest mark comes first.
-- The counts go on from what came before the list.
use Rattle.std.specs.Prelude.{ℕ, ◌+◌, ◌==◌, ◌&&◌, ◌||◌, nat_le, Bool, true, false, if◌then◌else◌, Option, None, Some, List, [], ◌∷◌}
use Rattle.ppp_mark.specs.declared.mark.Mark.{Mark}
use Rattle.ppp_mark.specs.declared.kind.TheConstants.{ATTEMPT, LINE, LCP_OPEN, LCP_CLOSED, ASKED, LEFT, MEMBER, LIVE, SIGNAL, CAUSE, OVER, HOLD, WAIT, FINISHED}
use Rattle.ppp_link_rules.specs.declared.cause.Cause.{Cause}

-- how many marks of a kind there are, and so many before them
abbrev pub count_in : ℕ → ℕ → List Mark → ℕ
count_in before kind [] = before
count_in before kind (m ∷ past) = if m.kind == kind then count_in before kind past + 1 else count_in before kind past

-- The sessions in a row that were over and weren't live (pppd(8), "maxfail").
abbrev pub failures_in : ℕ → List Mark → ℕ
failures_in before [] = before
failures_in before (m ∷ past) =
    if m.kind == OVER then (if m.x == 1 then 0 else failures_in before past + 1) else failures_in before past

-- What a link does: it hasn't begun, it dials, its session has a line, its session is just over, it holds off until a moment, it waits for a packet,
-- or it has finished with a status.
pub data Doing : Type 0 where
  New : Doing
  Dials : Doing
  HasLine : Doing
  IsOver : Doing
  Holds : (until : ℕ) → Doing
  Waits : Doing
  HasFinished : (status : ℕ) → Doing

abbrev pub doing_in : List Mark → Doing
doing_in [] = New
doing_in (m ∷ past) =
    if m.kind == ATTEMPT then Dials
    else if m.kind == LINE then HasLine
    else if m.kind == OVER then IsOver
    else if m.kind == HOLD then Holds (m.time + m.z)
    else if m.kind == WAIT then Waits
    else if m.kind == FINISHED then HasFinished m.x
    else doing_in past

-- a session lasts from its attempt until it is over
abbrev pub is_session : Doing → Bool
is_session New = false
is_session Dials = true
is_session HasLine = true
is_session IsOver = false
is_session (Holds until) = false
is_session Waits = false
is_session (HasFinished status) = false

abbrev pub is_new : Doing → Bool
is_new New = true
is_new Dials = false
is_new HasLine = false
is_new IsOver = false
is_new (Holds until) = false
is_new Waits = false
is_new (HasFinished status) = false

abbrev pub status_by : Doing → Option ℕ
status_by New = None
status_by Dials = None
status_by HasLine = None
status_by IsOver = None
status_by (Holds until) = None
status_by Waits = None
status_by (HasFinished status) = Some status

abbrev pub hold_by : Doing → Option ℕ
hold_by New = None
hold_by Dials = None
hold_by HasLine = None
hold_by IsOver = None
hold_by (Holds until) = Some until
hold_by Waits = None
hold_by (HasFinished status) = None

-- whether LCP is in Opened (RFC 1661, section 4.4)
abbrev pub lcp_open_in : List Mark → Bool
lcp_open_in [] = false
lcp_open_in (m ∷ past) = if m.kind == LCP_OPEN then true else if m.kind == LCP_CLOSED then false else lcp_open_in past

-- the first cause of the present session, or of the last one: a session has at most one
abbrev pub cause_in : List Mark → Option Cause
cause_in [] = None
cause_in (m ∷ past) =
    if m.kind == CAUSE then Some (record { number = m.x; detail = m.y }) else if m.kind == ATTEMPT then None else cause_in past

-- The stay: a bundle was asked for, and that wasn't taken back. Its unit, and whether the bundle has been live in it.
abbrev pub stay_in : List Mark → Option ℕ
stay_in [] = None
stay_in (m ∷ past) = if m.kind == ASKED then Some m.z else if m.kind == LEFT then None else stay_in past

abbrev pub unit_in : List Mark → Option ℕ
unit_in [] = None
unit_in (m ∷ past) = if m.kind == MEMBER then Some m.x else if m.kind == ASKED || m.kind == LEFT then None else unit_in past

abbrev pub live_in : List Mark → Bool
live_in [] = false
live_in (m ∷ past) = if m.kind == LIVE then true else if m.kind == ASKED || m.kind == LEFT then false else live_in past

-- whether the bundle has been live in some stay of the session
abbrev pub was_live_in : List Mark → Bool
was_live_in [] = false
was_live_in (m ∷ past) = if m.kind == LIVE then true else if m.kind == ATTEMPT then false else was_live_in past

-- how many marks there are since the attempt, its own included; all of them before the first
abbrev pub since_in : List Mark → ℕ
since_in [] = 0
since_in (m ∷ past) = if m.kind == ATTEMPT then 1 else since_in past + 1

-- whether the link was to stop: INT 2 or TERM 3 came
abbrev pub stopped_in : List Mark → Bool
stopped_in [] = false
stopped_in (m ∷ past) = (m.kind == SIGNAL && nat_le 2 m.x) || stopped_in past
