use Rattle.ppp_hooks.proofs.OneMore.{none_yet, one_more, settled_is}
use Rattle.ppp_hooks.proofs.laws.one_more_mark.Goals as goal

pub returns-clause-none : goal.returns-clause-none
returns-clause-none c = λ b. none_yet b

pub returns-clause-more : goal.returns-clause-more
returns-clause-more c = λ b past mark. one_more b past mark

pub returns-clause-settled : goal.returns-clause-settled
returns-clause-settled c = λ past. settled_is past
