use Rattle.ppp_dial.proofs.Allowed.{allowed_is_rule, rule_is_allowed}
use Rattle.ppp_dial.proofs.PlaceLemmas.{may_by_law}
use Rattle.ppp_dial.specs.LookingBack.{so_far}
use Rattle.ppp_dial.proofs.laws.exactly_one_answer.Goals as goal

pub returns-clause-some : goal.returns-clause-some
returns-clause-some c policy before past call law may = (rule_is_allowed call.kind policy (so_far before past) call.at call.room may, law)

pub returns-clause-one : goal.returns-clause-one
returns-clause-one c policy before past h law = (
  allowed_is_rule h.call.kind policy (so_far before past) h.call.at h.call.room h.answer law.0,
  may_by_law policy (so_far before past) h.call.kind h.call.at h.call.room h.answer law.0,
)
