use Rattle.ppp_hdlc.proofs.GoodResidue.{good}
use Rattle.ppp_hdlc.proofs.laws.good_residue_is_left.Goals as goal

pub returns : goal.returns
returns c = good
