use Rattle.std.proofs.Common.{ltb, arith, w8}
use Rattle.std.proofs.lemmas.Simd.{bitmask_splat}
use Rattle.std.proofs.lemmas.Bool.Decides.{nat_tests}
use Rattle.ppp_hdlc.proofs.Lanes.{unset}
use Rattle.ppp_hdlc.proofs.runs.marked_below.Goals as goal

pub returns : goal.returns
returns c = λ k within none.
    let other = unset (λ x. ltb x c.args.number) c.args.lanes _ k (bitmask_splat w8 ltb c.args.lanes 16 c.args.number c.fits-lanes.0 (omega arith)) (omega (arith, c.fits-lanes.0)) none in
    grind (arith, nat_tests, other)
