use Rattle.std.proofs.Common.{◌+◌, arith}
use Rattle.ppp_hdlc.proofs.Spanning.{takes_one, takes_both}
use Rattle.ppp_hdlc.proofs.deframer.Deframer.take_to_flag.Goals as goal

pub loop-at-preserved : goal.loop-at-preserved
loop-at-preserved c =
    takes_both _ _ c.loop-at.at _ _ c.loop-at.self _ c.loop-at.invariant
    (takes_both _ _ (c.loop-at.at + 1) _ _ c.take.new.self _ (rw c.take.ensures (takes_one c.args.octets.now c.loop-at.at c.loop-at.self c.loop-at-test.true c.if-octets-at-ne-FLAG.true)) c.take_runs-at-in-loop-at.ensures)

pub loop-at-smaller : goal.loop-at-smaller
loop-at-smaller c = omega (arith, c.take_runs-at-in-loop-at.ensures.forward, c.take_runs-at-in-loop-at.ensures.within, c.loop-at-test.true)
