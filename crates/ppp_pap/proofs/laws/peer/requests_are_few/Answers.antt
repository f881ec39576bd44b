use Rattle.ppp_pap.proofs.PeerLemmas.{few_requests}
use Rattle.ppp_pap.proofs.laws.peer.requests_are_few.Goals as goal

pub returns : goal.returns
returns c = few_requests
