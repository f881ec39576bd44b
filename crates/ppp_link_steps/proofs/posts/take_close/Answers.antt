use Rattle.ppp_link_steps.proofs.PostFacts.{closed_calm}
use Rattle.ppp_link_steps.proofs.posts.take_close.Goals as goal

pub returns-clause-calm : goal.returns-clause-calm
returns-clause-calm g c = closed_calm c.args.stay c.args.unit c.args.why c.args.live c.close_stay.ensures.does c.requires.calm
