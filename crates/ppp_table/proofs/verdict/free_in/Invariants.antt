use Rattle.std.proofs.Common.{◌≡◌, ◌≤◌, drop, length}
use Rattle.ppp_table.specs.Verdicts.{free_from}
use Rattle.ppp_table.proofs.verdict.free_in.Given as goal

abbrev pub invariant-looking : goal.invariant-looking
invariant-looking g l = record {
  rest : free_from l.number (drop l.unit-index l.units) ≡ free_from 0 l.units;
  place : l.number ≡ l.unit-index;
  few : length l.units ≤ 16;
}
