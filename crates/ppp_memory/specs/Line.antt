-- What contracts see of the reading half of a line in memory.
use Rattle.std.specs.Prelude.{◌≡◌, ℕ, ◌<◌, ◌≤◌, Bool, true, false, List, [], ◌∷◌, ◌++◌, length, take, drop, min, nat_eq, nat_lt, not, ◌||◌, Some, None, if◌then◌else◌}
use Rattle.ppp_outside.specs.Calls.{is_listed}
use Rattle.ppp_outside.specs.Counts.{counted, raised}
use Rattle.ppp_outside.specs.Line.{LineState, answer_with, failed, got_of, is_end, is_quiet}
use Rattle.ppp_outside.specs.declared.line_in.LineAnswer.{LineAnswer}
use Rattle.ppp_outside.specs.declared.line_in.LineGot.{LineGot}
use Rattle.ppp_outside.specs.declared.line_in.LineGot.TheVariants as got
use Rattle.ppp_memory.specs.declared.line.LineTurn.{LineTurn}
use Rattle.ppp_memory.specs.declared.line.LineTurn.TheVariants as turn

-- the octets that are left and how many a call gives at most; which calls are to fail and which are to be quiet; what was set
-- for the next call; the answers so far, for how many there is room, and whether a call found none; the counts
pub record LineInMemory : Type 0 where
  pub left : List ℕ
  pub piece : ℕ
  pub failing : List ℕ
  pub quiet : List ℕ
  pub next : LineTurn
  pub answers : List LineAnswer
  pub room : ℕ
  pub overrun : Bool
  pub calls : ℕ
  pub taken : ℕ
  pub faults : ℕ
  pub quiets : ℕ
  pub ends : ℕ

-- it tells what is left, and its answers as long as there was room for each
abbrev pub state_of : LineInMemory → LineState
state_of s = record {
  left = Some s.left;
  taken = s.taken;
  faults = s.faults;
  quiets = s.quiets;
  ends = s.ends;
  answers = if s.overrun then None else Some s.answers;
}

abbrev pub is_full : LineInMemory → Bool
is_full s = not (nat_lt (length s.answers) s.room)

abbrev pub fails_by : LineTurn → Bool
fails_by turn.Gives = false
fails_by turn.Quiet = false
fails_by turn.Fails = true

abbrev pub is_quiet_by : LineTurn → Bool
is_quiet_by turn.Gives = false
is_quiet_by turn.Quiet = true
is_quiet_by turn.Fails = false

-- whether the next call fails: it is one of those that are to fail, a fault was set, or the record is full
abbrev pub is_refused : LineInMemory → Bool
is_refused s = (is_listed s.calls s.failing || fails_by s.next) || is_full s

-- whether the next call is quiet, unless it fails
abbrev pub is_waiting : LineInMemory → Bool
is_waiting s = is_listed s.calls s.quiet || is_quiet_by s.next

-- what a call answers into a buffer with so much room that neither fails nor is to be quiet
abbrev pub next_of : LineInMemory → ℕ → LineGot
next_of s room =
    if nat_eq (length s.left) 0 then got.End else got_of (min (min (length s.left) room) s.piece)

-- what the next call answers into a buffer with so much room
abbrev pub answer_of : LineInMemory → ℕ → LineGot
answer_of s room =
    if is_refused s then got.Failed else if is_waiting s then got.Quiet else next_of s room

-- how many octets an answer gives
abbrev pub count_in : LineGot → ℕ
count_in (got.Got n) = n
count_in got.Quiet = 0
count_in got.End = 0
count_in got.Failed = 0

-- what stands in the buffer after an answer
abbrev pub buffer_with : LineGot → List ℕ → List ℕ → List ℕ
buffer_with (got.Got n) left buf = take n left ++ drop n buf
buffer_with got.Quiet left buf = buf
buffer_with got.End left buf = buf
buffer_with got.Failed left buf = buf

-- the record after an answer, which is kept where there is room
abbrev pub kept_after : LineInMemory → LineGot → LineInMemory
kept_after s answer = record s {
  answers = if is_full s then s.answers else s.answers ++ answer_with answer s.left ∷ [];
  overrun = s.overrun || is_full s;
}

-- what is left, and the counts, after an answer
abbrev pub passed : LineInMemory → LineGot → LineInMemory
passed s answer = record s {
  left = drop (count_in answer) s.left;
  calls = raised s.calls 1;
  taken = raised s.taken (count_in answer);
  faults = counted (failed answer) s.faults;
  quiets = counted (is_quiet answer) s.quiets;
  ends = counted (is_end answer) s.ends;
}

-- after a call with this answer
abbrev pub after_read : LineInMemory → LineGot → LineInMemory
after_read s answer = passed (kept_after s answer) answer

-- The answer can be given into a buffer with so much room: there are as many octets, none at the end, and the record has room
-- for any answer but a fault.
abbrev pub CanAnswer : LineInMemory → LineGot → ℕ → Type 0
CanAnswer s (got.Got n) room = (0 < n) × (n ≤ room) × (n ≤ length s.left) × (is_full s ≡ false)
CanAnswer s got.Quiet room = is_full s ≡ false
CanAnswer s got.End room = (s.left ≡ []) × (is_full s ≡ false)
CanAnswer s got.Failed room = Unit {0}
