-- What the last Ack carries.
use Rattle.ppp_ipcp.proofs.HavingLemmas.{has_what_it_may}
use Rattle.ppp_ipcp.proofs.laws.the_peer_has_what_it_may.Goals as goal

pub returns : goal.returns
returns c wish allow secrets past both all is e = has_what_it_may wish allow secrets past both all is e
