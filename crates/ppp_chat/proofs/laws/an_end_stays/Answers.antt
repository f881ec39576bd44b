use Rattle.ppp_chat.proofs.Ended.{chat-stays}
use Rattle.ppp_chat.proofs.laws.an_end_stays.Goals as goal

pub returns : goal.returns
returns c = chat-stays
