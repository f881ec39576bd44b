-- Both ways.
use Rattle.ppp_ipcp.proofs.MayHaveLemmas.{acked_may, may_acked, named_may, may_named}
use Rattle.ppp_ipcp.proofs.laws.judged_by_what_it_may_have.Goals as goal

pub returns-clause-acked : goal.returns-clause-acked
returns-clause-acked c wish allow secrets i = (acked_may wish allow secrets i, λ h. may_acked wish allow secrets i h.0 h.1)

pub returns-clause-named : goal.returns-clause-named
returns-clause-named c wish allow secrets i address = (named_may wish allow secrets i address, λ h. may_named wish allow secrets i address h.0 h.1 h.2)
