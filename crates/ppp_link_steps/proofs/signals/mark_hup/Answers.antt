use Rattle.ppp_link_steps.proofs.SignalFacts.{hup_lives}
use Rattle.ppp_link_steps.proofs.signals.mark_hup.Goals as goal

pub returns-clause-lives : goal.returns-clause-lives
returns-clause-lives g c = hup_lives {c = c.args.core.now} c.mark_hup.ensures.new c.mark_hup.ensures.dials c.requires.lives
