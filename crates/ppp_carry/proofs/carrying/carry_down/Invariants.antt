use Rattle.std.proofs.Common.{◌≡◌, length}
use Rattle.ppp_table_parts.specs.Side.{emptied, posts_of}
use Rattle.ppp_table_parts.specs.Sides.{at_link, side_of}
use Rattle.ppp_carry.specs.CarryPart.{AllGiven}
use Rattle.ppp_carry.proofs.carrying.carry_down.Given as goal

abbrev pub invariant-giving : goal.invariant-giving
invariant-giving g l = record {
  rest : (after : _) → AllGiven g.E.Ends.is_present g.E.Ends.Takes (posts_of (side_of l.number l.table.sides)) l.link after
      → AllGiven g.E.Ends.is_present g.E.Ends.Takes (posts_of (side_of l.number l.fn.table.sides)) l.fn.link after;
  left : at_link l.number emptied l.table.sides ≡ at_link l.number emptied l.fn.table.sides;
  beside : l.table ≡ record l.fn.table { sides = l.table.sides };
  same : g.E.Ends.number l.link ≡ g.E.Ends.number l.fn.link;
  id : l.number ≡ g.E.Ends.number l.fn.link;
}

abbrev pub decreases-giving : goal.decreases-giving
decreases-giving g l = length (posts_of (side_of l.number l.table.sides))
