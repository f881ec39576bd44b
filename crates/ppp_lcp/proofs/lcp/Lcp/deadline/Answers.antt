-- Looking back.
use Rattle.std.proofs.Common.{cond, ap, ◌∙◌}
use Rattle.std.specs.Prelude.{◌==◌}
use Rattle.ppp_lcp.specs.declared.lcp.Lcp.{Lcp}
use Rattle.ppp_lcp.proofs.lcp.Lcp.deadline.Goals as goal

pub returns-clause-stands : goal.returns-clause-stands
returns-clause-stands c wish words past s = c.deadline_now.ensures ∙ ap (λ (x : Lcp). cond (x.core.fsm.state == 9) x.echo_at x.core.restart_at) s.session
