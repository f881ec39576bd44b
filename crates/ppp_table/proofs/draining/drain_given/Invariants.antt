use Rattle.std.proofs.Common.{◌≡◌, length}
use Rattle.ppp_table_parts.specs.Deliveries.{with_deliveries}
use Rattle.ppp_table.proofs.draining.drain_given.Given as goal

abbrev pub invariant-draining : goal.invariant-draining
invariant-draining g l = record {
  rest : with_deliveries l.number l.unit.given l.deliveries ≡ with_deliveries l.number l.fn.unit.given l.fn.deliveries;
  same : l.unit ≡ record l.fn.unit { given = l.unit.given };
}

abbrev pub decreases-draining : goal.decreases-draining
decreases-draining g l = length l.unit.given
