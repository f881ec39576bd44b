use Rattle.std.proofs.Common.{◌≡◌, ◌+◌, ◌-◌, length, take, drop, sym, ap, ◌∙◌, arith}
use Rattle.std.proofs.lemmas.List.{take_all}
use Rattle.ppp_hdlc.specs.Register.{register_after}
use Rattle.ppp_hdlc.proofs.Division.{after-none, after-part}
use Rattle.ppp_hdlc.proofs.checksum.register_behind.Goals as goal

pub loop-at-init : goal.loop-at-init
loop-at-init c = (omega arith, sym (after-none c.args.register c.ranges.register.fits))

pub loop-at-preserved : goal.loop-at-preserved
loop-at-preserved c =
    let at = c.loop-at.at in
    let same : c.loop-at.at + (c.loop-at.at + 8 - c.loop-at.at) ≡ c.loop-at.at + 8 = omega arith in (
      omega arith,
      c.behind_eight-now.ensures
          ∙ ap (λ r. register_after r (take (c.loop-at.at + 8 - c.loop-at.at) (drop c.loop-at.at c.args.bytes.now))) c.loop-at.invariant.1
          ∙ after-part c.args.register c.loop-at.at (c.loop-at.at + 8 - c.loop-at.at) c.args.bytes.now
          ∙ ap (λ n. register_after c.args.register (take n c.args.bytes.now)) same,
    )

pub returns : goal.returns
returns c =
    let same : c.loop-at.at + (length c.args.bytes.now - c.loop-at.at) ≡ length c.args.bytes.now = omega (arith, c.loop-at.invariant.0) in
    c.behind_each.ensures
    ∙ ap (λ r. register_after r (take (length c.args.bytes.now - c.loop-at.at) (drop c.loop-at.at c.args.bytes.now))) c.loop-at.invariant.1
    ∙ after-part c.args.register c.loop-at.at (length c.args.bytes.now - c.loop-at.at) c.args.bytes.now
    ∙ ap (λ n. register_after c.args.register (take n c.args.bytes.now)) same
    ∙ ap (λ bs. register_after c.args.register bs) (take_all (length c.args.bytes.now) c.args.bytes.now (omega arith))
