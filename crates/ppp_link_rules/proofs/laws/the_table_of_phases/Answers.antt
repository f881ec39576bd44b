use Rattle.std.proofs.Common.{refl}
use Rattle.ppp_link_rules.specs.Phase.{kind_of}
use Rattle.ppp_link_rules.proofs.PhaseLemmas.{network_alone, lcp_always, other_never}
use Rattle.ppp_link_rules.proofs.laws.the_table_of_phases.Goals as goal

pub returns-clause-network : goal.returns-clause-network
returns-clause-network c phase agreed protocol is = network_alone phase (kind_of agreed protocol) is

pub returns-clause-lcp : goal.returns-clause-lcp
returns-clause-lcp c phase agreed = lcp_always phase

pub returns-clause-pap : goal.returns-clause-pap
returns-clause-pap c phase agreed not = rw not (other_never phase)

pub returns-clause-chap : goal.returns-clause-chap
returns-clause-chap c phase agreed not = rw not (other_never phase)

pub returns-clause-datagrams : goal.returns-clause-datagrams
returns-clause-datagrams c agreed = (refl, refl)
