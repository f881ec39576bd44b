use Rattle.ppp_link_rules.specs.Errands.{with_job_out}
use Rattle.ppp_link.proofs.GiveFacts.{body_gives_some, job_is}
use Rattle.ppp_link.proofs.takes.give_job.Goals as goal

pub returns-clause-gives : goal.returns-clause-gives
returns-clause-gives g c = body_gives_some with_job_out c.args.body.now _ c.give_job.result c.give_job.ensures.gives

pub returns-clause-is : goal.returns-clause-is
returns-clause-is g c = job_is c.args.body.now c.give_job.result c.give_job.ensures.job c.give_job.ensures.said
