use Rattle.ppp_link_steps.proofs.SignalFacts.{told_lives}
use Rattle.ppp_link_steps.proofs.signals.tell_stop.Goals as goal

pub returns-clause-lives : goal.returns-clause-lives
returns-clause-lives g c = told_lives {c = c.args.core.now} c.args.word c.stop.result c.stop.ensures.new c.stop.ensures.policy c.stop.ensures.dials c.requires.lives
