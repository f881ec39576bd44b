use Rattle.ppp_link_steps.proofs.ErrandFacts.{written_lives}
use Rattle.ppp_link_steps.proofs.errands.put_writing_in.Goals as goal

pub returns-clause-lives : goal.returns-clause-lives
returns-clause-lives g c = written_lives c.requires.lives
