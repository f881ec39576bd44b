use Rattle.ppp_pap.proofs.JudgeLemmas.{first_passed, first_refused, never_unanswered, none_waits, outcome_stays, passed_first, refused_first, waits_none}
use Rattle.ppp_pap.proofs.laws.judge.first_request_decides.Goals as goal

pub returns-clause-passed : goal.returns-clause-passed
returns-clause-passed c = λ past name number. (passed_first past name number, λ f. first_passed past name number f.0 f.1 f.2 f.3)

pub returns-clause-refused : goal.returns-clause-refused
returns-clause-refused c = λ past name. (refused_first past name, λ f. first_refused past name f.0 f.1 f.2 f.3)

pub returns-clause-waits : goal.returns-clause-waits
returns-clause-waits c = λ past. (waits_none past, none_waits past)

pub returns-clause-never : goal.returns-clause-never
returns-clause-never c = never_unanswered

pub returns-clause-stays : goal.returns-clause-stays
returns-clause-stays c = outcome_stays
