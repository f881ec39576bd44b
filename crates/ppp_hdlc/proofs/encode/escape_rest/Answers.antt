use Rattle.std.proofs.Common.{◌++◌, length, get_or, sym, ap, ◌∙◌, arith}
use Rattle.std.proofs.lemmas.List.{take_all}
use Rattle.ppp_hdlc.specs.Encoding.{escaped, escape}
use Rattle.ppp_hdlc.proofs.Escaping.{escaped-more, front-le}
use Rattle.ppp_hdlc.proofs.encode.escape_rest.Goals as goal

pub escape_octet-requires : goal.escape_octet-requires
escape_octet-requires c = omega (arith, c.requires.few, ap length c.loop-at.invariant.1, front-le c.args.map c.loop-at.at c.args.octets.now c.loop-at.invariant.0)

pub loop-at-preserved : goal.loop-at-preserved
loop-at-preserved c = (
  omega arith,
  c.escape_octet.ensures
      ∙ ap (λ l. l ++ escape c.args.map (get_or c.args.octets.now c.loop-at.at 0)) c.loop-at.invariant.1
      ∙ sym (escaped-more c.args.map c.args.octets.now c.loop-at.at c.loop-at-test.true),
)

pub returns : goal.returns
returns c = c.loop-at.invariant.1 ∙ ap (λ l. escaped c.args.map l) (take_all c.loop-at.at c.args.octets.now c.loop-at-test.false)
