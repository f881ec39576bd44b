use Rattle.ppp_hooks.specs.HookCall.{marks_of}
use Rattle.ppp_hooks.proofs.Calls.{lawful_calls}
use Rattle.ppp_hooks.proofs.Places.{law_of_past, settled_of_past}
use Rattle.ppp_hooks.proofs.laws.law_of_calls.Goals as goal

pub returns-clause-law : goal.returns-clause-law
returns-clause-law c = λ calls a. law_of_past (marks_of calls) (lawful_calls calls a).0

pub returns-clause-settled : goal.returns-clause-settled
returns-clause-settled c = λ calls a. settled_of_past (marks_of calls) (lawful_calls calls a).1
