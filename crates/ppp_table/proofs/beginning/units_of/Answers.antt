use Rattle.std.proofs.Common.{◌≡◌, ◌+◌, ◌≤◌, ℕ, length, suc, ap, arith}
use Rattle.ppp_table.proofs.NewUnits.{all_made, none_made, one_made}
use Rattle.ppp_table.proofs.Tellings.{of_some}
use Rattle.ppp_table.proofs.beginning.units_of.Goals as goal

pub loop-number-init : goal.loop-number-init
loop-number-init g c = record {
  room = c.in_ok-units.ensures.room;
  count = c.in_ok-units.ensures.count;
  sum = rw c.requires.sixteen (grind arith);
  young = c.requires.young;
  made = rw c.in_ok-units.ensures.items (none_made c.args.limit c.args.spawners.items);
}

pub loop-number-preserved : goal.loop-number-preserved
loop-number-preserved g c =
    let number : c.unwrap-unit.result ≡ c.loop-number.number = of_some c.new.result c.unwrap-unit.result c.loop-number.number c.unwrap-unit.ensures c.new.ensures.value in
    let fewer : length c.loop-number.spawners.items ≡ suc (length c.take_first-spawner.new.spawners.items) = ap length c.take_first-spawner.ensures in
    record {
      room = (let room = c.loop-number.invariant.room in grind (arith, room, c.push_reserved.ensures.capacity));
      count = (let count = c.loop-number.invariant.count in grind (arith, count, c.push_reserved.ensures.len));
      sum = (let sum = c.loop-number.invariant.sum in grind (arith, fewer, sum));
      young = (rw c.take_first-spawner.ensures at c.loop-number.invariant.young).2;
      made = rw c.push_reserved.ensures.items (one_made c.loop-number.number c.args.limit c.take_first-spawner.result c.take_first-spawner.new.spawners.items c.loop-number.spawners.items c.args.spawners.items c.in_ok-new_unit.field-0 c.loop-number.units.items
          c.take_first-spawner.ensures (rw number at c.in_ok-new_unit.ensures) c.loop-number.invariant.made);
    }

none_left : (left number : ℕ) → left + number ≡ 16 → 16 ≤ number → left ≡ 0
none_left left number e le = omega (arith, e, le)

pub returns : goal.returns
returns g c = all_made c.loop-number.number c.args.limit c.loop-number.spawners.items c.args.spawners.items c.loop-number.units.items
    (none_left (length c.loop-number.spawners.items) c.loop-number.number c.loop-number.invariant.sum (grind (arith, c.loop-number-test.false))) c.loop-number.invariant.made
