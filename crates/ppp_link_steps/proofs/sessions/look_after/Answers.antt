use Rattle.ppp_link_steps.proofs.OverFacts.{looked_calm}
use Rattle.ppp_link_steps.proofs.sessions.look_after.Goals as goal

pub returns-clause-calm : goal.returns-clause-calm
returns-clause-calm g c = looked_calm c.look_after.ensures.does c.requires.calm
