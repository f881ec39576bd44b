use Rattle.ppp_link_steps.proofs.ErrandFacts.{reading_calm, reading_does}
use Rattle.ppp_link_steps.proofs.errands.take_reading_back.Goals as goal

pub returns-clause-calm : goal.returns-clause-calm
returns-clause-calm g c = reading_calm c.args.how (reading_does c.args.how c.put_reading_in.ensures.does c.follow_reading.ensures.does)
