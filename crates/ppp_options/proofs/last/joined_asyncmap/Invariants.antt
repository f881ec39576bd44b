use Rattle.std.proofs.Common.{◌≡◌, bit_or, length}
use Rattle.ppp_options.specs.LinkOf.{asyncmap_of}
use Rattle.ppp_options.proofs.last.joined_asyncmap.Given as goal

abbrev pub invariant-looking : goal.invariant-looking
invariant-looking l = bit_or l.map (asyncmap_of l.left) ≡ bit_or l.initial.map (asyncmap_of l.initial.left)

abbrev pub decreases-looking : goal.decreases-looking
decreases-looking l = length l.left
