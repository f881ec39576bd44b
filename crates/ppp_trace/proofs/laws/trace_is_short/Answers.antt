use Rattle.ppp_trace.proofs.DecisionLemmas.{trace_is_short}
use Rattle.ppp_trace.proofs.laws.trace_is_short.Goals as goal

pub returns : goal.returns
returns c = trace_is_short
