-- What the words' stream answers.
use Rattle.std.proofs.Common.{rules}
use Rattle.rand_core.proofs.StepsLemmas.{meets_next_u32}
use Rattle.ppp_base.proofs.random_words.RandomWordsRng.next_u32.Goals as goal

pub returns-clause-answer : goal.returns-clause-answer
returns-clause-answer c = meets_next_u32 _ _ _ _ (search rules)
