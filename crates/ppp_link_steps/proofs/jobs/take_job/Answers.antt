use Rattle.ppp_link_steps.proofs.JobFacts.{gives_is, taken_calm, taken_does, taken_lives}
use Rattle.ppp_link_steps.proofs.jobs.take_job.Goals as goal

pub returns-clause-some : goal.returns-clause-some
returns-clause-some g c = gives_is c.take_job.result c.take_job.ensures.some

pub returns-clause-does : goal.returns-clause-does
returns-clause-does g c = taken_does c.args.core.now c.take_job.result c.take_job.ensures.taken c.take_job.ensures.dials

pub returns-clause-calm : goal.returns-clause-calm
returns-clause-calm g c = taken_calm c.args.core.now c.take_job.result c.take_job.ensures.taken c.take_job.ensures.none c.take_job.ensures.dials c.requires.calm

pub returns-clause-lives : goal.returns-clause-lives
returns-clause-lives g c = taken_lives c.args.core.now c.take_job.result c.take_job.ensures.taken c.take_job.ensures.none c.take_job.ensures.dials c.requires.lives
