use Rattle.std.proofs.Common.{ap, ◌∙◌}
use Rattle.ppp_pap.specs.Packets.{is_message}
use Rattle.ppp_pap.proofs.PacketLemmas.{message_is_read, read_is_message}
use Rattle.ppp_pap.proofs.laws.packets.messages_are_read.Goals as goal

pub returns : goal.returns
returns c = λ octets. (read_is_message octets, λ r. ap is_message r.1 ∙ message_is_read r.0)
