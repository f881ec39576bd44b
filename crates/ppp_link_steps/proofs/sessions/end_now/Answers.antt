use Rattle.ppp_link_steps.proofs.OverFacts.{ended_calm, ended_does}
use Rattle.ppp_link_steps.proofs.sessions.end_now.Goals as goal

pub returns-clause-calm : goal.returns-clause-calm
returns-clause-calm g c = ended_calm (ended_does c.tell_over-answer.result c.tell_over-answer.ensures.says c.tell_over-answer.ensures.does c.follow_dial.ensures.does) c.requires.calm
