use Rattle.std.proofs.Common.{length, ◌≡◌}
use Rattle.ppp_ipcp.specs.Taking.{last_address}
use Rattle.ppp_ipcp.proofs.ours.last_address.Given as goal

abbrev pub invariant-finding : goal.invariant-finding
invariant-finding l = last_address l.found l.walk ≡ last_address l.fn.other l.items

abbrev pub decreases-finding : goal.decreases-finding
decreases-finding l = length l.walk
