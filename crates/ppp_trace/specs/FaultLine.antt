-- The line that tells a fault.
use Rattle.std.specs.Prelude.{ℕ, List, ◌++◌, codes}
use Rattle.std.specs.Fmt.{decimal}
use Rattle.ppp_trace.specs.declared.fault.BadTrace.{BadTrace}
use Rattle.ppp_trace.specs.declared.fault.FaultKind.{FaultKind}
use Rattle.ppp_trace.specs.declared.fault.FaultKind.TheVariants.{Size, Empty, Header, Step, Long, Steps, Options, Secrets}

abbrev pub word_of_kind : FaultKind → List ℕ
word_of_kind Size = codes "size"
word_of_kind Empty = codes "empty"
word_of_kind Header = codes "header"
word_of_kind Step = codes "step"
word_of_kind Long = codes "long"
word_of_kind Steps = codes "steps"
word_of_kind Options = codes "options"
word_of_kind Secrets = codes "secrets"

-- the line of a fault, its newline with it
abbrev pub fault_line : BadTrace → List ℕ
fault_line bad = codes "bad trace: line " ++ decimal bad.line ++ codes ": " ++ word_of_kind bad.kind ++ codes "\n"
