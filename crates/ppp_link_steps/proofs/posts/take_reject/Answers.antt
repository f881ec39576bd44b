use Rattle.ppp_link_steps.proofs.PostFacts.{rejected_calm, rejected_does}
use Rattle.ppp_link_steps.proofs.posts.take_reject.Goals as goal

pub returns-clause-does : goal.returns-clause-does
returns-clause-does g c = rejected_does c.args.protocol c.args.information.now c.stay-stay.ensures c.reject_in.ensures.does

pub returns-clause-calm : goal.returns-clause-calm
returns-clause-calm g c = rejected_calm c.args.protocol c.args.information.now (rejected_does c.args.protocol c.args.information.now c.stay-stay.ensures c.reject_in.ensures.does) c.requires.calm
