use Rattle.ppp_link_steps.proofs.DialFacts.{made_lives}
use Rattle.ppp_link_steps.proofs.dialling.make_session.Goals as goal

pub returns-clause-lives : goal.returns-clause-lives
returns-clause-lives g c = made_lives {c = c.args.core.now} c.requires.none c.end.ensures c.restart.ensures.fresh c.clear.ensures c.requires.lives
