use Rattle.std.proofs.Common.{refl}
use Rattle.ppp_link_steps.proofs.ComeFacts.{failed_lives}
use Rattle.ppp_link_steps.proofs.coming.put_failure.Goals as goal

pub returns-clause-lives : goal.returns-clause-lives
returns-clause-lives g c = failed_lives {c = c.args.core.now} refl c.requires.lives
