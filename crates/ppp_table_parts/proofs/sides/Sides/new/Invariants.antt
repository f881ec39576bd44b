use Rattle.std.proofs.Common.{◌≡◌, ◌≤◌, replicate, vec_capacity, vec_len}
use Rattle.ppp_table_parts.specs.Side.{idle}
use Rattle.ppp_table_parts.proofs.sides.Sides.new.Given as goal

abbrev pub invariant-loop-link : goal.invariant-loop-link
invariant-loop-link l = record {
  room : 16 ≤ vec_capacity l.sides;
  count : vec_len l.sides ≡ l._link;
  items : l.sides.items ≡ replicate l._link idle;
}
