use Rattle.ppp_link_facts.proofs.HoldFacts.{each_step_right, right_of}
use Rattle.ppp_link_facts.proofs.laws.each_link_goes_right.Goals as goal

pub returns-clause-event : goal.returns-clause-event
returns-clause-event c event old new taken part k t g = each_step_right event old new taken part k t g

pub returns-clause-waits : goal.returns-clause-waits
returns-clause-waits c s k t hold = right_of s k t hold
