use Rattle.ppp_link_steps.proofs.ComeFacts.{taken_calm, taken_does}
use Rattle.ppp_link_steps.proofs.coming.take_line.Goals as goal

pub returns-clause-calm : goal.returns-clause-calm
returns-clause-calm g c = taken_calm (taken_does c.put_dial_in.ensures.does c.is_busy-busy.ensures c.talk_if.ensures.does) c.requires.out c.requires.calm
