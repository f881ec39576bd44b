use Rattle.ppp_auth.proofs.EndLemmas.{over_at_sixty}
use Rattle.ppp_auth.proofs.laws.sixty_seconds_at_most.Goals as goal

pub returns : goal.returns
returns c = over_at_sixty
