-- A full trace and what it says.
use Rattle.std.specs.Prelude.{◌≡◌, ℕ, ◌<◌, ◌≤◌, ◌^◌, List, ◌∷◌, length}
use Rattle.ppp_mark.specs.Lines.{lines_of}
use Rattle.ppp_trace.specs.FullFault.{full_line}
use Rattle.ppp_trace.specs.FullTrace.{Line}
use Rattle.ppp_trace.specs.Parts.{ReadsOptions}
use Rattle.ppp_trace.specs.declared.TheConstants.{MOST_OCTETS}
use Rattle.ppp_trace.specs.declared.trace.OptionsPart.{OptionsPart}
use Rattle.ppp_trace.specs.declared.trace.Trace.{Trace}

-- what the sections say
abbrev pub trace_of : ℕ → OptionsPart → Trace
trace_of seed part = record { seed = seed; config = part.config; secrets = record { pap = part.behind.pap; chap = part.behind.behind.chap }; steps = part.behind.behind.steps }

-- The octets are the first line, the sections and the steps of this trace.
pub record IsFullTrace (octets : List ℕ) (trace : Trace) : Type 0 where
  pub few : length octets ≤ MOST_OCTETS
  pub seed : ℕ
  pub small : seed < 2 ^ 64
  pub others : List Line
  pub header : lines_of octets ≡ full_line seed ∷ others
  pub part : OptionsPart
  pub reads : ReadsOptions others part
  pub is : trace ≡ trace_of seed part
