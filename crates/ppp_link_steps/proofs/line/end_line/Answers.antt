use Rattle.ppp_link_steps.proofs.LineFacts.{ended_lives}
use Rattle.ppp_link_steps.proofs.line.end_line.Goals as goal

pub returns-clause-lives : goal.returns-clause-lives
returns-clause-lives g c = ended_lives c.end.ensures c.requires.lives
