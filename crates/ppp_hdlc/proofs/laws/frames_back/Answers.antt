use Rattle.ppp_hdlc.proofs.Back.{back, quiet_before_last}
use Rattle.ppp_hdlc.proofs.laws.frames_back.Goals as goal

pub returns-clause-heard : goal.returns-clause-heard
returns-clause-heard c = back

pub returns-clause-at_its_last_octet : goal.returns-clause-at_its_last_octet
returns-clause-at_its_last_octet c = quiet_before_last
