use Rattle.ppp_chat.proofs.SendEnds.{send-ends-nothing}
use Rattle.ppp_chat.proofs.laws.a_send_is_no_end.Goals as goal

pub returns : goal.returns
returns c = send-ends-nothing
