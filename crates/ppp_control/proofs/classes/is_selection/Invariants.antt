use Rattle.std.proofs.Common.{length, ◌≡◌}
use Rattle.ppp_control.specs.Class.{is_selection}
use Rattle.ppp_control.proofs.Looking.{wanted, NothingBehind}
use Rattle.ppp_control.proofs.classes.is_selection.Given as goal

abbrev pub invariant-looking : goal.invariant-looking
invariant-looking l = (is_selection (wanted l.next l.wanted) l.walk ≡ is_selection l.few l.many) × NothingBehind l.next l.wanted

abbrev pub decreases-looking : goal.decreases-looking
decreases-looking l = length l.walk
