use Rattle.std.proofs.Common.{◌≡◌, length}
use Rattle.ppp_table.specs.Counts.{CountsKept}
use Rattle.ppp_carry.specs.CarryPart.{AllPosted, AllTaken}
use Rattle.ppp_carry.proofs.carrying.carry_up.Given as goal

abbrev pub invariant-posting : goal.invariant-posting
invariant-posting g l = record {
  up : (after : _) → AllPosted l.number (g.E.Ends.waiting l.link) l.table after → AllPosted l.number (g.E.Ends.waiting l.fn.link) l.fn.table after;
  rest : (after : _) → AllTaken g.E.Ends.Posted (g.E.Ends.waiting l.link) l.link after → AllTaken g.E.Ends.Posted (g.E.Ends.waiting l.fn.link) l.fn.link after;
  same : g.E.Ends.number l.link ≡ g.E.Ends.number l.fn.link;
  id : l.number ≡ g.E.Ends.number l.fn.link;
  counts : CountsKept l.fn.table l.table;
}

abbrev pub decreases-posting : goal.decreases-posting
decreases-posting g l = length (g.E.Ends.waiting l.link)
