use Rattle.ppp_hdlc.proofs.Division.{Residue-after}
use Rattle.ppp_hdlc.proofs.laws.register_leaves_residue.Goals as goal

pub returns : goal.returns
returns c = Residue-after
