use Rattle.ppp_hooks.proofs.GivenLemmas.{has_args, ran_given, words_given}
use Rattle.ppp_hooks.proofs.laws.given_so_far.Goals as goal

pub returns-clause-args : goal.returns-clause-args
returns-clause-args c = λ given other facts past stands same h. has_args given other facts past stands same h

pub returns-clause-words : goal.returns-clause-words
returns-clause-words c = λ target given other past l same. words_given target given other past l same

pub returns-clause-ran : goal.returns-clause-ran
returns-clause-ran c = λ target given other past l same. ran_given target given other past l same
