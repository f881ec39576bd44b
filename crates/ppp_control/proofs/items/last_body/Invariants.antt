use Rattle.std.proofs.Common.{length, ◌≡◌, None}
use Rattle.std.specs.Option.{option_copied}
use Rattle.ppp_control.specs.Changes.{last_from}
use Rattle.ppp_control.proofs.items.last_body.Given as goal

abbrev pub invariant-finding : goal.invariant-finding
invariant-finding l = last_from (option_copied l.found) l.kind l.walk ≡ last_from None l.kind l.items

abbrev pub decreases-finding : goal.decreases-finding
decreases-finding l = length l.walk
