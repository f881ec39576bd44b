-- The counts of a real line, which tells nothing of content.
use Rattle.std.specs.Prelude.{ℕ, None}
use Rattle.ppp_outside.specs.Counts.{counted, raised}
use Rattle.ppp_outside.specs.Line.{LineState, failed, is_end, is_quiet}
use Rattle.ppp_outside.specs.declared.line_in.LineGot.{LineGot}
use Rattle.ppp_outside.specs.declared.line_in.LineGot.TheVariants as got
use Rattle.ppp_real.specs.declared.line_counts.LineCounts.{LineCounts}

-- how many octets an answer gives
abbrev pub count_in : LineGot → ℕ
count_in (got.Got n) = n
count_in got.Quiet = 0
count_in got.End = 0
count_in got.Failed = 0

-- after an answer
abbrev pub after_answer : LineCounts → LineGot → LineCounts
after_answer c answer = record c {
  taken = raised c.taken (count_in answer);
  faults = counted (failed answer) c.faults;
  quiets = counted (is_quiet answer) c.quiets;
  ends = counted (is_end answer) c.ends;
}

-- what a line with these counts tells
abbrev pub state_of : LineCounts → LineState
state_of c = record { left = None; taken = c.taken; faults = c.faults; quiets = c.quiets; ends = c.ends; answers = None }
