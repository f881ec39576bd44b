-- Each computes.
use Rattle.std.proofs.Common.{refl}
use Rattle.std.specs.Fmt.{digits}
use Rattle.ppp_world_rules.proofs.rows.what_is_printed.Goals as goal

pub returns-clause-begins : goal.returns-clause-begins
unfolding digits
returns-clause-begins c = refl

pub returns-clause-stale : goal.returns-clause-stale
unfolding digits
returns-clause-stale c = refl

pub returns-clause-written : goal.returns-clause-written
unfolding digits
returns-clause-written c = refl

pub returns-clause-lost : goal.returns-clause-lost
unfolding digits
returns-clause-lost c = refl

pub returns-clause-order : goal.returns-clause-order
unfolding digits
returns-clause-order c = refl

pub returns-clause-summary : goal.returns-clause-summary
unfolding digits
returns-clause-summary c = refl

pub returns-clause-new : goal.returns-clause-new
returns-clause-new c r p u a b m n = refl
