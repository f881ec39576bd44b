use Rattle.ppp_chap.proofs.JudgeRuns.{one_fails, one_passes, passing_run, refusing_run, unanswered_run}
use Rattle.ppp_chap.proofs.laws.judge.some_pass.Goals as goal

pub returns-clause-passed : goal.returns-clause-passed
returns-clause-passed c = passing_run

pub returns-clause-refused : goal.returns-clause-refused
returns-clause-refused c = refusing_run

pub returns-clause-unanswered : goal.returns-clause-unanswered
returns-clause-unanswered c = unanswered_run

pub returns-clause-one : goal.returns-clause-one
returns-clause-one c = one_passes

pub returns-clause-another : goal.returns-clause-another
returns-clause-another c = one_fails
