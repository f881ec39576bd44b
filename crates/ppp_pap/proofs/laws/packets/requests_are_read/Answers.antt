use Rattle.std.proofs.Common.{ap, ◌∙◌}
use Rattle.ppp_pap.specs.Packets.{request_of}
use Rattle.ppp_pap.proofs.PacketLemmas.{body_is_read, read_is_body}
use Rattle.ppp_pap.proofs.laws.packets.requests_are_read.Goals as goal

pub returns : goal.returns
returns c = λ octets name password. (read_is_body octets name password, λ e. ap request_of e ∙ body_is_read name password)
