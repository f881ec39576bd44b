use Rattle.ppp_link_core.proofs.CallFacts.{marked_lives}
use Rattle.ppp_link_core.proofs.link_core.LinkCore.mark_opened.Goals as goal

pub returns-clause-lives : goal.returns-clause-lives
returns-clause-lives g c = marked_lives c.map-map.ensures.stands c.mark_lcp_open.ensures.new c.mark_lcp_open.ensures.dials c.set_map.ensures.map c.requires.lives
