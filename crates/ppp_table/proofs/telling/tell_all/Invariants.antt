use Rattle.std.proofs.Common.{◌≡◌, ◌-◌, ◌≤◌, length}
use Rattle.ppp_table_parts.proofs.SideLemmas.{each_first}
use Rattle.ppp_table.specs.Told.{told}
use Rattle.ppp_table.proofs.telling.tell_all.Given as goal

abbrev pub invariant-loop-number : goal.invariant-loop-number
invariant-loop-number l = record {
  done : l.sides ≡ each_first (told l.news) (l.number - 1) 1 l.fn.sides;
  from : 1 ≤ l.number;
  to : l.number ≤ 17;
  sixteen : length l.fn.sides ≡ 16;
}
