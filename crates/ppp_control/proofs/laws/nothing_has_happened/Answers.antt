use Rattle.ppp_control.proofs.RulesLemmas.{begun}
use Rattle.ppp_control.proofs.laws.nothing_has_happened.Goals as goal

pub returns : goal.returns
returns c = λ start r. begun r
