use Rattle.std.proofs.Common.{◌/◌, sym, ap, ◌∙◌}
use Rattle.std.specs.Prelude.{bit_xor}
use Rattle.ppp_hdlc.proofs.Turning.{after-word}
use Rattle.ppp_hdlc.proofs.checksum.behind_octet.Goals as goal

pub returns : goal.returns
returns c = ap (λ n. bit_xor n (c.args.register / 256)) c.word.ensures ∙ sym (after-word c.args.register c.args.octet c.ranges.register.fits c.ranges.octet.fits)
