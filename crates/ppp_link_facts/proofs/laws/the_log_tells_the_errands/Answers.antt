use Rattle.ppp_link_facts.proofs.ErrandEvents.{each_step_tells, new_tells}
use Rattle.ppp_link_facts.proofs.laws.the_log_tells_the_errands.Goals as goal

pub returns-clause-new : goal.returns-clause-new
returns-clause-new c id seed limit config wish secrets = new_tells id seed limit config wish secrets

pub returns-clause-event : goal.returns-clause-event
returns-clause-event c event old new taken part k h = each_step_tells event old new taken part k h
