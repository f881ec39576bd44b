use Rattle.ppp_hdlc.proofs.Turning.{eight-of}
use Rattle.ppp_hdlc.proofs.checksum.behind_eight.Goals as goal

pub returns : goal.returns
returns c =
    rw (c.word.ensures, c.word-2.ensures, c.word-3.ensures, c.word-4.ensures, c.word-5.ensures, c.word-6.ensures, c.word-7.ensures, c.word-8.ensures)
    (eight-of c.args.register c.args.octets.now c.requires c.ranges.register.fits (λ k. (c.type_inv.octets k).fits))
