use Rattle.ppp_hdlc.proofs.Lengths.{arrives, at_least, at_most}
use Rattle.ppp_hdlc.proofs.laws.frames_arrive.Goals as goal

pub returns-clause-arrives : goal.returns-clause-arrives
returns-clause-arrives c = arrives

pub returns-clause-at_least : goal.returns-clause-at_least
returns-clause-at_least c = at_least

pub returns-clause-at_most : goal.returns-clause-at_most
returns-clause-at_most c = at_most
