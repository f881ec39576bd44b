use Rattle.ppp_link_core.proofs.EndFacts.{left_lives}
use Rattle.ppp_link_core.proofs.link_core.LinkCore.post_leave.Goals as goal

pub returns-clause-lives : goal.returns-clause-lives
returns-clause-lives g c = left_lives c.requires.there c.mark_left.ensures.new c.mark_left.ensures.dials c.put_leave.ensures.value c.requires.lives
