use Rattle.ppp_hooks.proofs.Places.{law_of_past as the_law, settled_of_past}
use Rattle.ppp_hooks.proofs.laws.law_of_past.Goals as goal

pub returns-clause-law : goal.returns-clause-law
returns-clause-law c = λ past l. the_law past l

pub returns-clause-settled : goal.returns-clause-settled
returns-clause-settled c = λ past s. settled_of_past past s
