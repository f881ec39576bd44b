use Rattle.ppp_chat.proofs.AbortNumbers.{abort-number}
use Rattle.ppp_chat.proofs.laws.an_abort_has_its_number.Goals as goal

pub returns : goal.returns
returns c = abort-number
