use Rattle.ppp_link_core.proofs.PostFacts.{live_lives}
use Rattle.ppp_link_core.proofs.link_core.LinkCore.live_if.Goals as goal

pub returns-then-new-clause-lives : goal.returns-then-new-clause-lives
returns-then-new-clause-lives g c = live_lives c.if-new.true c.mark_live.ensures.new c.mark_live.ensures.dials c.requires.lives
