use Rattle.std.proofs.Common.{◌-◌, length}
use Rattle.ppp_hdlc.specs.Spans.{Takes}
use Rattle.ppp_hdlc.proofs.deframer.Deframer.take_to_flag.Given as goal

abbrev pub invariant-loop-at : goal.invariant-loop-at
invariant-loop-at l = Takes l.octets l.from l.at l.fn.self l.self

abbrev pub decreases-loop-at : goal.decreases-loop-at
decreases-loop-at l = length l.octets - l.at
