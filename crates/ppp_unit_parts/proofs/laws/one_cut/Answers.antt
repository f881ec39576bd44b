use Rattle.ppp_unit_parts.proofs.SendFacts.{cut_is, cut_of_is}
use Rattle.ppp_unit_parts.proofs.laws.one_cut.Goals as goal

pub returns-clause-one : goal.returns-clause-one
returns-clause-one c = cut_is

pub returns-clause-some : goal.returns-clause-some
returns-clause-some c = cut_of_is
