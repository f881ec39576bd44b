use Rattle.ppp_chap.proofs.JudgeLemmas.{first_passed, first_refused, first_tired, none_waits, outcome_stays, passed_first, refused_first, tired_first, waits_none}
use Rattle.ppp_chap.proofs.laws.judge.first_response_decides.Goals as goal

pub returns-clause-passed : goal.returns-clause-passed
returns-clause-passed c = λ challenge past name number. (passed_first challenge past name number, λ f. first_passed challenge past name number f.0 f.1 f.2 f.3)

pub returns-clause-refused : goal.returns-clause-refused
returns-clause-refused c = λ challenge past name. (refused_first challenge past name, λ f. first_refused challenge past name f.0 f.1 f.2 f.3)

pub returns-clause-unanswered : goal.returns-clause-unanswered
returns-clause-unanswered c = λ challenge past times. (tired_first challenge past times, λ f. first_tired challenge past times f.0 f.1)

pub returns-clause-waits : goal.returns-clause-waits
returns-clause-waits c = λ challenge past. (waits_none challenge past, none_waits challenge past)

pub returns-clause-stays : goal.returns-clause-stays
returns-clause-stays c = outcome_stays
