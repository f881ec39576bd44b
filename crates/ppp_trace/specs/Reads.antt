-- What a reader of bare traces answers.
use Rattle.std.specs.Prelude.{ℕ, ⊤, List}
use Rattle.ppp_trace.specs.declared.fault.TraceFault.{TraceFault}
use Rattle.ppp_trace.specs.declared.fault.TraceFault.TheVariants as fault
use Rattle.ppp_trace.specs.FirstFault.{FirstFault}

-- A fault that is told is the first one of the octets. Want of memory says nothing of them.
abbrev pub Tells : List ℕ → TraceFault → Type 0
Tells octets (fault.Bad bad) = FirstFault octets bad
Tells octets (fault.NoMemory memory) = ⊤
