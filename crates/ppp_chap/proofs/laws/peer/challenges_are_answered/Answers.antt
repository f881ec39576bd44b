use Rattle.ppp_chap.proofs.PeerLemmas.{challenge_answered}
use Rattle.ppp_chap.proofs.laws.peer.challenges_are_answered.Goals as goal

pub returns : goal.returns
returns c = challenge_answered
