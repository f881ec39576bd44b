use Rattle.std.proofs.Common.{sym, ◌∙◌}
use Rattle.ppp_chat.proofs.Reading.{taken}
use Rattle.ppp_chat.proofs.pieces.take_piece.Goals as goal

pub returns-clause-read : goal.returns-clause-read
returns-clause-read c = taken c.args.octet c.args.others.now c.in_ok-spelled.spelled (sym c.in_ok-spelled.was ∙ c.first_piece.ensures.value)
