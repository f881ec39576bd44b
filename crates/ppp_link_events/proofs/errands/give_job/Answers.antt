use Rattle.ppp_link_events.proofs.ErrandFacts.{job_gives, job_goes}
use Rattle.ppp_link_events.proofs.errands.give_job.Goals as goal

pub returns-clause-gives : goal.returns-clause-gives
returns-clause-gives g c = job_gives c.args.core.now c.take_job.new.core c.take_job.result c.take_job.ensures.some c.take_job.ensures.does

pub returns-clause-goes : goal.returns-clause-goes
returns-clause-goes g c = job_goes c.take_job.result (job_gives c.args.core.now c.take_job.new.core c.take_job.result c.take_job.ensures.some c.take_job.ensures.does) c.take_job.ensures.none c.requires.goes c.take_job.ensures.sits c.take_job.ensures.calm
