use Rattle.std.proofs.Common.{eqb, arith, w8}
use Rattle.std.proofs.lemmas.Simd.{bitmask_splat}
use Rattle.std.proofs.lemmas.Bool.Decides.{nat_tests}
use Rattle.ppp_hdlc.proofs.Lanes.{unset}
use Rattle.ppp_hdlc.proofs.runs.marked_as.Goals as goal

pub returns : goal.returns
returns c = λ k within none.
    let other = unset (λ x. eqb x c.args.octet) c.args.lanes _ k (bitmask_splat w8 eqb c.args.lanes 16 c.args.octet c.fits-lanes.0 (omega arith)) (omega (arith, c.fits-lanes.0)) none in
    grind (arith, nat_tests, other)
