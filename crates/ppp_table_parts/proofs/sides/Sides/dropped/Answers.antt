use Rattle.std.proofs.Common.{arith, ◌^◌, ◌-◌}
use Rattle.ppp_table_parts.proofs.SideLemmas.{counted, within_all}
use Rattle.ppp_table_parts.proofs.sides.Sides.dropped.Goals as goal

pub returns-clause-dropped : goal.returns-clause-dropped
returns-clause-dropped c = rw (← c.counting.invariant.all) (counted c.counting.dropped c.counting.side-index (2 ^ 64 - 1) c.as_slice-side-items.result.now (grind (arith, c.counting-test.false)) c.counting.invariant.within c.counting.invariant.rest)

pub returns-clause-within : goal.returns-clause-within
returns-clause-within c = rw (← c.counting.invariant.all) (c.counting.invariant.rings (within_all c.counting.side-index _ (grind (arith, c.counting-test.false))))
