use Rattle.ppp_mark.proofs.LawLemmas.{one_more_mark}
use Rattle.ppp_mark.proofs.laws.one_more_mark.Goals as goal

pub returns : goal.returns
returns c = λ b past m. one_more_mark b past m
