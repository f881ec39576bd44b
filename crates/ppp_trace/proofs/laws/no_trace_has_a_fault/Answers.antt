use Rattle.ppp_trace.proofs.DecisionLemmas.{first_fault}
use Rattle.ppp_trace.proofs.laws.no_trace_has_a_fault.Goals as goal

pub returns : goal.returns
returns c = first_fault
