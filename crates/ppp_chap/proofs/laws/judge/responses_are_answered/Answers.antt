use Rattle.ppp_chap.proofs.AnswerLemmas.{fails, silent, succeeds}
use Rattle.ppp_chap.proofs.laws.judge.responses_are_answered.Goals as goal

pub returns-clause-success : goal.returns-clause-success
returns-clause-success c = succeeds

pub returns-clause-failure : goal.returns-clause-failure
returns-clause-failure c = fails

pub returns-clause-silent : goal.returns-clause-silent
returns-clause-silent c = silent
