use Rattle.ppp_link_core.proofs.EndFacts.{marked_lives}
use Rattle.ppp_link_core.proofs.link_core.LinkCore.mark_closed.Goals as goal

pub returns-clause-lives : goal.returns-clause-lives
returns-clause-lives g c = marked_lives c.mark_lcp_closed.ensures.new c.mark_lcp_closed.ensures.dials c.set_map.ensures.map c.requires.lives
