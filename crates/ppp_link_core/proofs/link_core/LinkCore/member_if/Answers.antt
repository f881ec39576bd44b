use Rattle.ppp_link_core.proofs.PostFacts.{member_lives}
use Rattle.ppp_link_core.proofs.link_core.LinkCore.member_if.Goals as goal

pub returns-then-new-clause-lives : goal.returns-then-new-clause-lives
returns-then-new-clause-lives g c = member_lives c.if-new.true c.mark_member.ensures.new c.mark_member.ensures.dials c.requires.lives
