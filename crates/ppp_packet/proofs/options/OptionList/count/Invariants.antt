use Rattle.std.proofs.Common.{◌≡◌, ◌+◌, length}
use Rattle.ppp_packet.proofs.options.OptionList.count.Given as goal

abbrev pub invariant-counting : goal.invariant-counting
invariant-counting l = l.count + length l.items ≡ length l.self

abbrev pub decreases-counting : goal.decreases-counting
decreases-counting l = length l.items
