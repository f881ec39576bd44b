use Rattle.std.proofs.Common.{refl, ap, ◌∙◌}
use Rattle.ppp_mark.specs.ScriptLog.{log_opened}
use Rattle.ppp_base.specs.declared.hook_target.HookTarget.TheVariants.{Link}
use Rattle.ppp_link_parts.proofs.AnsweredLemmas.{made}
use Rattle.ppp_link_parts.proofs.KeptLemmas.{dials_on, goes_by, goes_opened, kept_opened}
use Rattle.ppp_link_parts.proofs.records.Records.open_scripts.Goals as goal

pub invariant_of-self : goal.invariant_of-self
invariant_of-self g c =
    kept_opened c.self.inside.control c.self.inside.id c.args.time c.self.inside.scripts c.opens.new.self c.self.inside.dial c.self.invariant (ap (λ m. m.target) c.opens.ensures.machine) c.opens.ensures.log

pub returns-clause-dials : goal.returns-clause-dials
returns-clause-dials g c = rw (← c.self.view_is) (λ line h.
    dials_on line (made c.self.inside.id c.self.inside.scripts c.self.inside.dial) (made c.self.inside.id c.opens.new.self c.self.inside.dial) refl
    (goes_by line c.self.inside.scripts.log c.opens.new.self.log (log_opened (Link c.self.inside.id) c.args.time c.self.inside.scripts.log)
    (c.opens.ensures.log ∙ ap (λ target. log_opened target c.args.time c.self.inside.scripts.log) c.self.invariant.target)
    (goes_opened line c.self.inside.id c.args.time c.self.inside.scripts.log)) h)
