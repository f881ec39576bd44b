use Rattle.std.proofs.Common.{◌≡◌, length}
use Rattle.ppp_fsm.specs.Acts.{has}
use Rattle.ppp_fsm.proofs.acts.Acts.has.Given as goal

abbrev pub invariant-looking : goal.invariant-looking
invariant-looking l = has l.act l.left ≡ has l.act l.self

abbrev pub decreases-looking : goal.decreases-looking
decreases-looking l = length l.left
