use Rattle.std.proofs.Common.{◌≡◌, ◌-◌, ◌≤◌, length}
use Rattle.ppp_table_parts.proofs.SideLemmas.{each_first}
use Rattle.ppp_table.specs.Asking.{woken_one}
use Rattle.ppp_table.proofs.asking.wake.Given as goal

abbrev pub invariant-loop-number : goal.invariant-loop-number
invariant-loop-number l = record {
  done : l.sides ≡ each_first (woken_one l.unit l.links) (l.number - 1) 1 l.fn.sides;
  from : 1 ≤ l.number;
  to : l.number ≤ 17;
  sixteen : length l.fn.sides ≡ 16;
}
