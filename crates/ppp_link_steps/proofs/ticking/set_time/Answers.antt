use Rattle.ppp_link_steps.proofs.TickFacts.{time_calm, time_lives}
use Rattle.ppp_link_steps.proofs.ticking.set_time.Goals as goal

pub returns-clause-calm : goal.returns-clause-calm
returns-clause-calm g c = time_calm {c = c.args.core.now} c.args.now c.latest-core.ensures c.requires.calm

pub returns-clause-lives : goal.returns-clause-lives
returns-clause-lives g c = time_lives {c = c.args.core.now} c.args.now c.latest-core.ensures c.requires.lives
