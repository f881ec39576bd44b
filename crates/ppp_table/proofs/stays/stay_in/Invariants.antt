use Rattle.std.proofs.Common.{◌≡◌, ◌≤◌, drop, length}
use Rattle.ppp_table.specs.TableState.{stay_from}
use Rattle.ppp_table.proofs.stays.stay_in.Given as goal

abbrev pub invariant-looking : goal.invariant-looking
invariant-looking g l = record {
  rest : stay_from l.number l.link (drop l.unit-index l.units) ≡ stay_from 0 l.link l.units;
  place : l.number ≡ l.unit-index;
  few : length l.units ≤ 16;
}
