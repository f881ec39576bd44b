use Rattle.ppp_link_steps.proofs.PostFacts.{sent_calm, sent_does}
use Rattle.ppp_link_steps.proofs.posts.take_send.Goals as goal

pub returns-clause-does : goal.returns-clause-does
returns-clause-does g c = sent_does c.args.protocol c.args.information.now c.stay-stay.ensures c.send_in.ensures.does

pub returns-clause-calm : goal.returns-clause-calm
returns-clause-calm g c = sent_calm c.args.protocol c.args.information.now (sent_does c.args.protocol c.args.information.now c.stay-stay.ensures c.send_in.ensures.does) c.requires.calm
