use Rattle.ppp_chat.proofs.FirstEnding.{found-first, found-none}
use Rattle.ppp_chat.proofs.laws.the_first_ends.Goals as goal

pub returns-clause-found : goal.returns-clause-found
returns-clause-found c = found-first

pub returns-clause-none : goal.returns-clause-none
returns-clause-none c = found-none
