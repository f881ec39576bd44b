use Rattle.ppp_unit_parts.proofs.SendFacts.{Puts}
use Rattle.ppp_unit_parts.proofs.sends.put_pieces.Given as goal

abbrev pub invariant-putting : goal.invariant-putting
invariant-putting l = Puts l.number l.at l.packet l.cuts l.fn.sent l.sent
