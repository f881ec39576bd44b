use Rattle.ppp_hdlc.proofs.Quotient.{division}
use Rattle.ppp_hdlc.proofs.laws.remainder_is_of_division.Goals as goal

pub returns : goal.returns
returns c = division
