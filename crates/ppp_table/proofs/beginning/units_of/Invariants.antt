use Rattle.std.proofs.Common.{◌≡◌, ◌≤◌, ◌+◌, ◌^◌, length, vec_capacity, vec_len}
use Rattle.ppp_table.specs.Begins.{AreYoung}
use Rattle.ppp_table.proofs.NewUnits.{Makes}
use Rattle.ppp_table.proofs.beginning.units_of.Given as goal

abbrev pub invariant-loop-number : goal.invariant-loop-number
invariant-loop-number g l = record {
  room : 16 ≤ vec_capacity l.units;
  count : vec_len l.units ≡ l.number;
  sum : length l.spawners.items + l.number ≡ 16;
  young : AreYoung g.S.Spawner.tries g.S.Spawner.faults (2 ^ 63) l.spawners.items;
  made : Makes l.number l.limit l.spawners.items l.fn.spawners.items l.units.items;
}
