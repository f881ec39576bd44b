-- Each row computes.
use Rattle.std.proofs.Common.{refl}
use Rattle.ppp_control.specs.Answers.{answer_to}
use Rattle.ppp_lcp.proofs.laws.answers.Goals as goal

pub returns-clause-table : goal.returns-clause-table
unfolding answer_to
returns-clause-table c limits = (refl, (refl, (refl, (refl, (refl, (refl, (refl, (refl, (refl, (refl, (refl, (refl, (refl, (refl, (refl, (refl, (refl, (refl, (refl, (refl, (refl, (refl, (refl, (refl, (refl, (refl, (refl, (refl, (refl, (refl, (refl, (refl, (refl, tt)))))))))))))))))))))))))))))))))

pub returns-clause-order : goal.returns-clause-order
unfolding answer_to
returns-clause-order c limits = (refl, (refl, (refl, (refl, (refl, (refl, tt))))))

pub returns-clause-cut : goal.returns-clause-cut
unfolding answer_to
returns-clause-cut c limits = refl
