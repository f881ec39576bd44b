use Rattle.std.proofs.Common.{arith}
use Rattle.ppp_mp.proofs.RingLemmas.{ring_empty, all_empty}
use Rattle.ppp_mp.proofs.slots.Slots.new.Goals as goal

pub invariant_of-result : goal.invariant_of-result
invariant_of-result c = (let count = c.loop-slot.invariant.count in omega arith, ring_empty 0 c.loop-slot.slots.items c.loop-slot.invariant.none)

pub returns-clause-none : goal.returns-clause-none
returns-clause-none c = λ number. all_empty c.loop-slot.slots.items c.loop-slot.invariant.none number
