use Rattle.std.proofs.Common.{rules}
use Rattle.ppp_unit_parts.proofs.SendFacts.{all_fit}
use Rattle.ppp_unit_parts.proofs.sends.cut_packet.Goals as goal

pub returns-clause-fits : goal.returns-clause-fits
returns-clause-fits c = all_fit c.args.packet.now c.args.pieces.now.turn c.args.members.now c.cut.result c.requires.members c.as_slice-members.ensures.lawful (search rules)
