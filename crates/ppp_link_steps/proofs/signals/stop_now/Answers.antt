use Rattle.ppp_link_steps.proofs.SignalFacts.{stopped_calm, stopped_does}
use Rattle.ppp_link_steps.proofs.signals.stop_now.Goals as goal

pub returns-clause-calm : goal.returns-clause-calm
returns-clause-calm g c = stopped_calm c.args.word c.tell_stop-answer.result c.tell_stop-answer.ensures.says c.tell_stop-answer.ensures.free (stopped_does c.args.word c.tell_stop-answer.result c.signal_cause.ensures.cause c.tell_stop-answer.ensures.says c.tell_stop-answer.ensures.does c.follow_dial.ensures.does c.end_by.ensures.does) c.requires.calm
