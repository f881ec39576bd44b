use Rattle.std.proofs.Common.{◌≡◌, length}
use Rattle.std.specs.List.{fold}
use Rattle.ppp_mp.specs.Delivered.{lesser, lowest}
use Rattle.ppp_mp.proofs.settling.lowest.Given as goal

abbrev pub invariant-loop-left : goal.invariant-loop-left
invariant-loop-left l = fold lesser l.least l.left ≡ lowest l.initial.left

abbrev pub decreases-loop-left : goal.decreases-loop-left
decreases-loop-left l = length l.left
