use Rattle.std.proofs.Common.{◌∷◌, [], take, get_or, sym, ap, ◌∙◌}
use Rattle.std.proofs.lemmas.List.{take_more}
use Rattle.ppp_hdlc.specs.Register.{register_after}
use Rattle.ppp_hdlc.proofs.Division.{after-none, after-append}
use Rattle.ppp_hdlc.proofs.checksum.behind_each.Goals as goal

pub loop-byte-init : goal.loop-byte-init
loop-byte-init c = sym (after-none c.args.register c.ranges.register.fits)

pub loop-byte-preserved : goal.loop-byte-preserved
loop-byte-preserved c =
    c.behind_octet-now.ensures
    ∙ ap (λ r. register_after r (get_or c.args.bytes.now c.loop-byte.byte-index 0 ∷ [])) c.loop-byte.invariant
    ∙ after-append c.args.register (take c.loop-byte.byte-index c.args.bytes.now) (get_or c.args.bytes.now c.loop-byte.byte-index 0 ∷ [])
    ∙ ap (λ bs. register_after c.args.register bs) (sym (take_more c.args.bytes.now c.loop-byte.byte-index 0 c.loop-byte-test.true))
