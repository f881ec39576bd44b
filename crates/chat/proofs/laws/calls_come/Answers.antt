use Rattle.std.proofs.Common.{rules}
use Rattle.ppp_words.specs.Steps.{front_of}
use Rattle.chat.proofs.laws.calls_come.Goals as goal

pub returns-clause-of_file : goal.returns-clause-of_file
unfolding front_of
returns-clause-of_file c = search rules
