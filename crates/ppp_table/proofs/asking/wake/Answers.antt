use Rattle.std.proofs.Common.{arith}
use Rattle.ppp_table.specs.Asking.{woken_one}
use Rattle.ppp_table.proofs.Tellings.{next, of_some}
use Rattle.ppp_table.proofs.asking.wake.Goals as goal

pub loop-number-preserved : goal.loop-number-preserved
loop-number-preserved c = record {
  done = next (woken_one c.args.unit c.args.links.now) c.loop-number.number c.unwrap.result c.args.sides.now c.loop-number.sides c.wake_one.new.sides c.loop-number.invariant.from
      (grind (arith, c.loop-number-test.true, c.count-past.ensures.sixteen)) (of_some c.new.result c.unwrap.result c.loop-number.number c.unwrap.ensures c.new.ensures.value) c.loop-number.invariant.sixteen
      c.loop-number.invariant.done c.wake_one.ensures;
  from = grind arith;
  to = grind (arith, c.loop-number-test.true, c.count-past.ensures.sixteen);
  sixteen = c.loop-number.invariant.sixteen;
}
