-- What contracts see of a sink in memory.
use Rattle.std.specs.Prelude.{ℕ, ◌-◌, Bool, true, false, List, ◌++◌, length, min, nat_eq, nat_lt, ◌&&◌, ◌||◌, if◌then◌else◌, Some}
use Rattle.ppp_outside.specs.Calls.{is_listed}
use Rattle.ppp_outside.specs.Counts.{counted, raised}
use Rattle.ppp_outside.specs.Sink.{SinkState, accepted, failed}
use Rattle.ppp_outside.specs.declared.sink.SinkNext.{SinkNext}
use Rattle.ppp_outside.specs.declared.sink.SinkNext.TheVariants.{Takes, Fails}
use Rattle.ppp_outside.specs.declared.sink.Took.{Took}
use Rattle.ppp_outside.specs.declared.sink.Took.TheVariants as took

-- what was written and for how much there is room, how much a call takes at most, which calls are to fail, the answer that
-- was set, and the counts
pub record SinkInMemory : Type 0 where
  pub written : List ℕ
  pub room : ℕ
  pub piece : ℕ
  pub failing : List ℕ
  pub next : SinkNext
  pub calls : ℕ
  pub faults : ℕ

-- it tells what was written
abbrev pub state_of : SinkInMemory → SinkState
state_of s = record { written = Some s.written; faults = s.faults }

abbrev pub is_fault : SinkNext → Bool
is_fault Takes = false
is_fault Fails = true

-- how many octets of so many a call takes at most
abbrev pub count_of : SinkInMemory → ℕ → ℕ
count_of s octets = min (min octets (s.room - length s.written)) s.piece

-- whether the next call fails: it is one of those that are to fail, a fault was set, or there is no room
abbrev pub is_refused : SinkInMemory → ℕ → Bool
is_refused s octets =
    (is_listed s.calls s.failing || is_fault s.next)
    || (nat_eq (count_of s octets) 0 && nat_lt 0 octets)

-- what the next call answers to a piece of so many octets
abbrev pub answer_of : SinkInMemory → ℕ → Took
answer_of s octets = if is_refused s octets then took.Failed else took.Took (count_of s octets)

-- after a call with this piece and this answer
abbrev pub after_write : SinkInMemory → List ℕ → Took → SinkInMemory
after_write s piece answer = record s {
  written = s.written ++ accepted answer piece;
  calls = raised s.calls 1;
  faults = counted (failed answer) s.faults;
}
