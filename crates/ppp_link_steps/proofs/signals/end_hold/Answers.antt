use Rattle.ppp_link_steps.proofs.SignalFacts.{held_calm, held_does}
use Rattle.ppp_link_steps.proofs.signals.end_hold.Goals as goal

pub returns-clause-calm : goal.returns-clause-calm
returns-clause-calm g c = held_calm c.tell_hup-answer.ensures.free (held_does c.tell_hup-answer.result c.tell_hup-answer.ensures.says c.tell_hup-answer.ensures.does c.follow_dial.ensures.does) c.requires.calm
