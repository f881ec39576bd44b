use Rattle.std.proofs.Common.{refl}
use Rattle.ppp_base.specs.declared.hook_target.HookTarget.TheVariants.{Link}
use Rattle.ppp_link_parts.proofs.AnsweredLemmas.{made}
use Rattle.ppp_link_parts.proofs.KeptLemmas.{dials_on, goes_by, same_log}
use Rattle.ppp_link_parts.proofs.StartLemmas.{job_told, job_waits}
use Rattle.ppp_link_parts.proofs.records.Records.take_job.Goals as goal

pub returns-clause-dials : goal.returns-clause-dials
returns-clause-dials g c = rw (← c.self.view_is) (λ line h.
    dials_on line (made c.self.inside.id c.self.inside.scripts c.self.inside.dial) (made c.self.inside.id c.take_job.new.self c.self.inside.dial) refl
    (goes_by line c.self.inside.scripts.log c.take_job.new.self.log c.self.inside.scripts.log (same_log c.take_job.result c.self.inside.scripts c.take_job.new.self c.take_job.ensures.taken c.take_job.ensures.none)
    (record { dialled = refl })) h)

pub returns-clause-some : goal.returns-clause-some
returns-clause-some g c = rw (← c.self.view_is) (job_waits c.self.inside.scripts.log.past c.take_job.result c.self.inside.scripts.machine.spawner c.ends-ends.result c.take_job.ensures.some c.ends-ends.ensures.value c.ends-ends.ensures.one_at_a_time)

pub returns-clause-job : goal.returns-clause-job
returns-clause-job g c = rw (← c.self.view_is) (job_told c.self.inside.scripts.log.past c.take_job.result c.self.inside.scripts.machine.target (Link c.self.inside.id) _ c.self.invariant.target c.take_job.ensures.job)
