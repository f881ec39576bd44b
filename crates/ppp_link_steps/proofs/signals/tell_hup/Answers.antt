use Rattle.ppp_base.specs.declared.signal_word.SignalWord.TheVariants.{Hup}
use Rattle.ppp_link_steps.proofs.SignalFacts.{told_lives}
use Rattle.ppp_link_steps.proofs.signals.tell_hup.Goals as goal

pub returns-clause-lives : goal.returns-clause-lives
returns-clause-lives g c = told_lives {c = c.args.core.now} Hup c.hup.result c.hup.ensures.new c.hup.ensures.policy c.hup.ensures.dials c.requires.lives
