use Rattle.std.proofs.Common.{arith}
use Rattle.ppp_table.specs.Told.{told}
use Rattle.ppp_table.proofs.Tellings.{next, of_some}
use Rattle.ppp_table.proofs.telling.tell_all.Goals as goal

pub loop-number-preserved : goal.loop-number-preserved
loop-number-preserved c = record {
  done = next (told c.args.news.now) c.loop-number.number c.unwrap.result c.args.sides.now c.loop-number.sides c.tell.new.sides c.loop-number.invariant.from
      (grind (arith, c.loop-number-test.true, c.count-past.ensures.sixteen)) (of_some c.new.result c.unwrap.result c.loop-number.number c.unwrap.ensures c.new.ensures.value) c.loop-number.invariant.sixteen
      c.loop-number.invariant.done c.tell.ensures;
  from = grind arith;
  to = grind (arith, c.loop-number-test.true, c.count-past.ensures.sixteen);
  sixteen = c.loop-number.invariant.sixteen;
}
