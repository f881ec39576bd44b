use Rattle.ppp_link_steps.proofs.ComeFacts.{back_lives}
use Rattle.ppp_link_steps.proofs.coming.put_dial_in.Goals as goal

pub returns-clause-lives : goal.returns-clause-lives
returns-clause-lives g c = back_lives {c = c.args.core.now} c.requires.lives
