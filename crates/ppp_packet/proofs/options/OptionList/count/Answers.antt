-- Each option is counted once.
use Rattle.std.proofs.Common.{length, arith, ap}
use Rattle.ppp_packet.proofs.Laying.{two_each}
use Rattle.ppp_packet.proofs.options.OptionList.count.Goals as goal

pub overflow_add-count : goal.overflow_add-count
overflow_add-count c = omega (arith, c.counting.invariant, two_each c.iter-items.result, c.iter-items.ensures.within, ap length c.iter-items.ensures.items, ap length c.in-Some.ensures.item)

pub returns-in-None-clause-within : goal.returns-in-None-clause-within
returns-in-None-clause-within c = omega (arith, c.counting.invariant, two_each c.iter-items.result, c.iter-items.ensures.within, ap length c.iter-items.ensures.items)
