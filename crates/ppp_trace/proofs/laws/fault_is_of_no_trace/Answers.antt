use Rattle.ppp_trace.proofs.OnceLemmas.{no_fault}
use Rattle.ppp_trace.proofs.laws.fault_is_of_no_trace.Goals as goal

pub returns : goal.returns
returns c = λ octets bad fault steps trace. no_fault octets steps bad trace fault
