use Rattle.std.proofs.Common.{refl, Some}
use Rattle.ppp_hooks.specs.HookFacts.{settled, with_end}
use Rattle.ppp_link_parts.proofs.AnsweredLemmas.{made}
use Rattle.ppp_link_parts.proofs.KeptLemmas.{dials_on, goes_back, kept_back}
use Rattle.ppp_link_parts.proofs.records.Records.end_job.Goals as goal

pub invariant_of-self : goal.invariant_of-self
invariant_of-self g c =
    kept_back c.ended.result c.self.inside.control c.self.inside.id c.args.time c.args.done.answer (settled (with_end c.self.inside.scripts.machine.facts c.args.done.answer)) (Some c.args.done.spawner)
    c.self.inside.scripts c.ended.new.self c.self.inside.dial c.self.invariant c.ended.ensures.machine c.ended.ensures.log c.ended.ensures.unchanged

pub returns-clause-dials : goal.returns-clause-dials
returns-clause-dials g c = rw (← c.self.view_is) (λ line h.
    dials_on line (made c.self.inside.id c.self.inside.scripts c.self.inside.dial) (made c.self.inside.id c.ended.new.self c.self.inside.dial) refl
    (goes_back c.ended.result line c.args.time c.args.done.answer c.self.inside.scripts c.ended.new.self c.ended.ensures.log c.ended.ensures.unchanged) h)
