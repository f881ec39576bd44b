use Rattle.ppp_trace.proofs.OnceLemmas.{one_spelling}
use Rattle.ppp_trace.proofs.laws.trace_has_one_meaning.Goals as goal

pub returns : goal.returns
returns c = one_spelling
