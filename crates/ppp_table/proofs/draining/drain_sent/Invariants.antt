use Rattle.std.proofs.Common.{◌≡◌, length}
use Rattle.ppp_table.specs.Told.{posted}
use Rattle.ppp_table.proofs.draining.drain_sent.Given as goal

abbrev pub invariant-draining : goal.invariant-draining
invariant-draining g l = record {
  rest : posted l.unit.sent l.sides ≡ posted l.fn.unit.sent l.fn.sides;
  same : l.unit ≡ record l.fn.unit { sent = l.unit.sent };
}

abbrev pub decreases-draining : goal.decreases-draining
decreases-draining g l = length l.unit.sent
