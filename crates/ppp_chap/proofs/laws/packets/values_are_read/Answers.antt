use Rattle.std.proofs.Common.{ap, ◌∙◌}
use Rattle.ppp_chap.specs.Packets.{valued_of}
use Rattle.ppp_chap.proofs.PacketLemmas.{body_is_valued, valued_is_body}
use Rattle.ppp_chap.proofs.laws.packets.values_are_read.Goals as goal

pub returns : goal.returns
returns c = λ octets value name. (valued_is_body octets value name, λ e. ap valued_of e.0 ∙ body_is_valued value name e.1)
