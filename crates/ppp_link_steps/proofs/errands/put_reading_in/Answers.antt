use Rattle.ppp_link_steps.proofs.ErrandFacts.{read_lives}
use Rattle.ppp_link_steps.proofs.errands.put_reading_in.Goals as goal

pub returns-clause-lives : goal.returns-clause-lives
returns-clause-lives g c = read_lives c.requires.lives
