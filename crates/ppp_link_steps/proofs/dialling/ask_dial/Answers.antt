use Rattle.ppp_link_steps.specs.Dialled.{kind_of}
use Rattle.ppp_link_steps.proofs.DialFacts.{asked_calm, asked_does}
use Rattle.ppp_link_steps.proofs.dialling.ask_dial.Goals as goal

pub returns-clause-calm : goal.returns-clause-calm
returns-clause-calm g c = asked_calm (kind_of c.args.ask) c.mark_answer-answer.result c.mark_answer-answer.ensures.says c.mark_answer-answer.ensures.free (asked_does (kind_of c.args.ask) c.mark_answer-answer.result c.mark_answer-answer.ensures.says c.mark_answer-answer.ensures.does c.follow_dial.ensures.does) c.requires.calm
