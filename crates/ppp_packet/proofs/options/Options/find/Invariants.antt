use Rattle.std.proofs.Common.{length}
use Rattle.ppp_packet.proofs.Laying.{IsBehind}
use Rattle.ppp_packet.proofs.options.Options.find.Given as goal

abbrev pub invariant-reading : goal.invariant-reading
invariant-reading l = IsBehind l.bytes l.left

abbrev pub decreases-reading : goal.decreases-reading
decreases-reading l = length l.left
