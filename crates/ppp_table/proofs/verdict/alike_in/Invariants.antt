use Rattle.std.proofs.Common.{◌≡◌, ◌≤◌, drop, length}
use Rattle.ppp_table.specs.Verdicts.{alike_from}
use Rattle.ppp_table.proofs.verdict.alike_in.Given as goal

abbrev pub invariant-looking : goal.invariant-looking
invariant-looking g l = record {
  rest : alike_from l.number l.terms.key l.sides (drop l.unit-index l.units) ≡ alike_from 0 l.terms.key l.sides l.units;
  place : l.number ≡ l.unit-index;
  few : length l.units ≤ 16;
}
