use Rattle.std.proofs.Common.{length, ◌≡◌}
use Rattle.std.specs.Prelude.{◌||◌}
use Rattle.ppp_control.specs.Changes.{names_kind}
use Rattle.ppp_control.proofs.items.names_kind.Given as goal

abbrev pub invariant-seeking : goal.invariant-seeking
invariant-seeking l = (l.is_named || names_kind l.kind l.walk) ≡ names_kind l.kind l.items

abbrev pub decreases-seeking : goal.decreases-seeking
decreases-seeking l = length l.walk
