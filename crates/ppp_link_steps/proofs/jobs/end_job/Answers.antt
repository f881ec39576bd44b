use Rattle.ppp_link_steps.proofs.JobFacts.{ended_calm, ended_does, ended_lives}
use Rattle.ppp_link_steps.proofs.jobs.end_job.Goals as goal

pub returns-clause-does : goal.returns-clause-does
returns-clause-does g c = ended_does c.args.core.now c.args.done.answer c.args.done.spawner c.end_job.result c.end_job.ensures.new c.end_job.ensures.dials

pub returns-clause-calm : goal.returns-clause-calm
returns-clause-calm g c = ended_calm c.args.core.now c.args.done.answer c.args.done.spawner c.end_job.result c.end_job.ensures.new c.end_job.ensures.unchanged c.end_job.ensures.dials c.requires.calm

pub returns-clause-lives : goal.returns-clause-lives
returns-clause-lives g c = ended_lives c.args.core.now c.args.done.answer c.args.done.spawner c.end_job.result c.end_job.ensures.new c.end_job.ensures.unchanged c.end_job.ensures.dials c.requires.lives
