use Rattle.ppp_chap.proofs.PeerRuns.{passing_run, refusing_run, turning_run, secretless_run}
use Rattle.ppp_chap.proofs.laws.peer.some_pass.Goals as goal

pub returns-clause-passed : goal.returns-clause-passed
returns-clause-passed c = passing_run

pub returns-clause-refused : goal.returns-clause-refused
returns-clause-refused c = refusing_run

pub returns-clause-turned : goal.returns-clause-turned
returns-clause-turned c = turning_run

pub returns-clause-no_secret : goal.returns-clause-no_secret
returns-clause-no_secret c = secretless_run
