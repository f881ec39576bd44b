use Rattle.ppp_link_core.proofs.StandFacts.{lives_after}
use Rattle.ppp_link_core.proofs.link_core.LinkCore.open_for.Goals as goal

pub returns-in-Some-clause-lives : goal.returns-in-Some-clause-lives
returns-in-Some-clause-lives g c = lives_after c.open_auth.ensures.does c.requires.lives
