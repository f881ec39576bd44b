use Rattle.ppp_pap.proofs.PeerRuns.{passing_run, refusing_run, turning_run, unanswered_run}
use Rattle.ppp_pap.proofs.laws.peer.some_pass.Goals as goal

pub returns-clause-passed : goal.returns-clause-passed
returns-clause-passed c = passing_run

pub returns-clause-refused : goal.returns-clause-refused
returns-clause-refused c = refusing_run

pub returns-clause-turned : goal.returns-clause-turned
returns-clause-turned c = turning_run

pub returns-clause-unanswered : goal.returns-clause-unanswered
returns-clause-unanswered c = unanswered_run
