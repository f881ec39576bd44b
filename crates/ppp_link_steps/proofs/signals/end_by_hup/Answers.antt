use Rattle.ppp_link_steps.proofs.SignalFacts.{session_calm, session_does}
use Rattle.ppp_link_steps.proofs.signals.end_by_hup.Goals as goal

pub returns-clause-calm : goal.returns-clause-calm
returns-clause-calm g c = session_calm (session_does c.signal_cause.ensures.cause c.mark_hup.ensures.does c.end_by.ensures.does) c.requires.calm
