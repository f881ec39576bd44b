-- What contracts see of a source in memory.
use Rattle.std.specs.Prelude.{ℕ, List, length, drop, min, nat_eq, nat_lt, ◌&&◌, if◌then◌else◌, Some}
use Rattle.ppp_outside.specs.Calls.{is_listed}
use Rattle.ppp_outside.specs.Counts.{counted, raised}
use Rattle.ppp_outside.specs.Source.{SourceState, failed}
use Rattle.ppp_outside.specs.declared.source.Got.{Got}
use Rattle.ppp_outside.specs.declared.source.Got.TheVariants as got

-- the octets that are left, how many of them a call gives at most, which calls are to fail, and the counts
pub record SourceInMemory : Type 0 where
  pub left : List ℕ
  pub piece : ℕ
  pub failing : List ℕ
  pub calls : ℕ
  pub taken : ℕ
  pub faults : ℕ

-- it tells what is left
abbrev pub state_of : SourceInMemory → SourceState
state_of s = record { left = Some s.left; taken = s.taken; faults = s.faults }

-- what a call answers that isn't to fail, into a buffer with so much room
abbrev pub got_of : SourceInMemory → ℕ → Got
got_of s room =
    if nat_eq (length s.left) 0 && nat_lt 0 room
    then got.End
    else got.Got (min (min (length s.left) room) s.piece)

-- what the next call answers
abbrev pub answer_of : SourceInMemory → ℕ → Got
answer_of s room = if is_listed s.calls s.failing then got.Failed else got_of s room

-- how many octets an answer gives
abbrev pub count_in : Got → ℕ
count_in (got.Got n) = n
count_in got.End = 0
count_in got.Failed = 0

-- after a call with this answer
abbrev pub after_read : SourceInMemory → Got → SourceInMemory
after_read s answer = record s {
  left = drop (count_in answer) s.left;
  calls = raised s.calls 1;
  taken = raised s.taken (count_in answer);
  faults = counted (failed answer) s.faults;
}
