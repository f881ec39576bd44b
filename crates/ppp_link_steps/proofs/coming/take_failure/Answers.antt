use Rattle.ppp_link_steps.proofs.ComeFacts.{no_line_calm, no_line_does}
use Rattle.ppp_link_steps.proofs.coming.take_failure.Goals as goal

pub returns-clause-calm : goal.returns-clause-calm
returns-clause-calm g c = no_line_calm (no_line_does c.put_failure.ensures.does c.end_by.ensures.does) c.requires.out c.requires.calm
