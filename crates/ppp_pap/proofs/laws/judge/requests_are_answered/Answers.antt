use Rattle.ppp_pap.proofs.AnswerLemmas.{acknowledged, refused, silent}
use Rattle.ppp_pap.proofs.laws.judge.requests_are_answered.Goals as goal

pub returns-clause-acknowledged : goal.returns-clause-acknowledged
returns-clause-acknowledged c = acknowledged

pub returns-clause-refused : goal.returns-clause-refused
returns-clause-refused c = refused

pub returns-clause-silent : goal.returns-clause-silent
returns-clause-silent c = silent
