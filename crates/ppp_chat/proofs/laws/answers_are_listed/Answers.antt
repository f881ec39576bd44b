use Rattle.ppp_chat.proofs.TalkLemmas.{listed}
use Rattle.ppp_chat.proofs.laws.answers_are_listed.Goals as goal

pub returns : goal.returns
returns c = listed
