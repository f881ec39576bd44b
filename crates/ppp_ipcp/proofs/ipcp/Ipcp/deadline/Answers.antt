-- Looking back.
use Rattle.std.proofs.Common.{ap, ◌∙◌}
use Rattle.ppp_ipcp.specs.declared.ipcp.Ipcp.{Ipcp}
use Rattle.ppp_ipcp.proofs.ipcp.Ipcp.deadline.Goals as goal

pub returns-clause-stands : goal.returns-clause-stands
returns-clause-stands c wish past s = c.deadline.ensures ∙ ap (λ (x : Ipcp). x.core.restart_at) s.session
