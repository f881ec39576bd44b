use Rattle.std.proofs.Common.{[], get_or, ap, ◌∙◌}
use Rattle.ppp_hdlc.specs.declared.words.TheConstants.{WORDS}
use Rattle.ppp_hdlc.proofs.Turning.{word-at}
use Rattle.ppp_hdlc.proofs.checksum.word.Goals as goal

pub returns : goal.returns
returns c = ap (λ i. get_or (get_or WORDS c.args.zeros []) i 0) c.from.ensures ∙ word-at c.args.zeros c.args.octet c.requires c.ranges.octet.fits
