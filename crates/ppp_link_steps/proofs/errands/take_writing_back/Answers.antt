use Rattle.ppp_link_steps.proofs.ErrandFacts.{writing_calm, writing_does}
use Rattle.ppp_link_steps.proofs.errands.take_writing_back.Goals as goal

pub returns-clause-calm : goal.returns-clause-calm
returns-clause-calm g c = writing_calm c.args.how (writing_does c.args.how c.put_writing_in.ensures.does c.follow_writing.ensures.does)
