use Rattle.std.proofs.Common.{◌≡◌, ◌≤◌, ◌-◌, ◌^◌, min, drop, ◌+◌}
use Rattle.ppp_table_parts.specs.Sides.{AreWithin, frames_dropped}
use Rattle.ppp_table_parts.proofs.sides.Sides.dropped.Given as goal

abbrev pub invariant-counting : goal.invariant-counting
invariant-counting l = record {
  rest : min (l.dropped + frames_dropped (drop l.side-index l.side-items)) (2 ^ 64 - 1) ≡ min (frames_dropped l.side-items) (2 ^ 64 - 1);
  within : l.dropped ≤ 2 ^ 64 - 1;
  rings : AreWithin (drop l.side-index l.side-items) → AreWithin l.side-items;
  all : l.side-items ≡ l.self;
}
