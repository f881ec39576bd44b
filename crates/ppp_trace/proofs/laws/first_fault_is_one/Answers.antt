use Rattle.ppp_trace.proofs.OnceLemmas.{one_fault}
use Rattle.ppp_trace.proofs.laws.first_fault_is_one.Goals as goal

pub returns : goal.returns
returns c = one_fault
