use Rattle.std.proofs.Common.{◌↔◌, length}
use Rattle.ppp_mp.specs.Members.{AreMembers}
use Rattle.ppp_mp.proofs.members.are_members.Given as goal

abbrev pub invariant-loop-left : goal.invariant-loop-left
invariant-loop-left l = AreMembers 0 l.initial.left ↔ AreMembers l.low l.left

abbrev pub decreases-loop-left : goal.decreases-loop-left
decreases-loop-left l = length l.left
