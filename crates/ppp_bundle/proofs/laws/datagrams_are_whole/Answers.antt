use Rattle.std.proofs.Common.{arith}
use Rattle.ppp_mp.proofs.Reaching.{reached_some}
use Rattle.ppp_bundle.specs.History.{entries_in}
use Rattle.ppp_bundle.proofs.LawFacts.{all_came, gathered_whole}
use Rattle.ppp_bundle.proofs.laws.datagrams_are_whole.Goals as goal

pub returns-clause-came : goal.returns-clause-came
returns-clause-came c = all_came

pub returns-clause-whole : goal.returns-clause-whole
returns-clause-whole c = gathered_whole

pub returns-clause-some : goal.returns-clause-some
returns-clause-some c = λ mrru past. reached_some 8388608 mrru (entries_in past) (omega arith)
