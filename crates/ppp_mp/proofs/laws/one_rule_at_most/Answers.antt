use Rattle.ppp_mp.proofs.Once.{rule_once, settles_once}
use Rattle.ppp_mp.proofs.laws.one_rule_at_most.Goals as goal

pub returns-clause-rule : goal.returns-clause-rule
returns-clause-rule c = rule_once

pub returns-clause-settled : goal.returns-clause-settled
returns-clause-settled c = settles_once
