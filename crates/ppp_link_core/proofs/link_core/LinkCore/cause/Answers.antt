use Rattle.ppp_link_core.proofs.EndFacts.{caused_lives}
use Rattle.ppp_link_core.proofs.link_core.LinkCore.cause.Goals as goal

pub returns-clause-lives : goal.returns-clause-lives
returns-clause-lives g c = caused_lives c.mark_cause.ensures.new c.mark_cause.ensures.dials c.give_up.ensures c.requires.lives
