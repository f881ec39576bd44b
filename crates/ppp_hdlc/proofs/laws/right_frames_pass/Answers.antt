use Rattle.ppp_hdlc.proofs.Passing.{passes, passed}
use Rattle.ppp_hdlc.proofs.laws.right_frames_pass.Goals as goal

pub returns : goal.returns
returns c = λ part protocol information. (passed part protocol information, passes part protocol information)
