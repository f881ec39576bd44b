use Rattle.ppp_link_core.proofs.EndFacts.{auth_closed_lives}
use Rattle.ppp_link_core.proofs.link_core.LinkCore.close_auth.Goals as goal

pub returns-clause-lives : goal.returns-clause-lives
returns-clause-lives g c = auth_closed_lives c.close_scripts.ensures.new c.close_scripts.ensures.dials c.requires.lives
