use Rattle.ppp_link_steps.proofs.ComeFacts.{line_lives}
use Rattle.ppp_link_steps.proofs.coming.put_line.Goals as goal

pub returns-clause-lives : goal.returns-clause-lives
returns-clause-lives g c = line_lives {c = c.args.core.now} c.mark_line.ensures.new c.mark_line.ensures.dials c.lcp_wish-wish.ensures.is c.new.ensures.stands c.branch-made.ensures.made c.branch-made.ensures.left c.requires.lives
