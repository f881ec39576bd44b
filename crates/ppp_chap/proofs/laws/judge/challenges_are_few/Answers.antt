use Rattle.ppp_chap.proofs.JudgeLemmas.{few_challenges}
use Rattle.ppp_chap.proofs.laws.judge.challenges_are_few.Goals as goal

pub returns : goal.returns
returns c = few_challenges
