use Rattle.ppp_link_steps.proofs.PostFacts.{member_calm}
use Rattle.ppp_link_steps.proofs.posts.take_member.Goals as goal

pub returns-clause-calm : goal.returns-clause-calm
returns-clause-calm g c = member_calm c.args.stay c.args.unit c.args.live c.make_member.ensures.does c.requires.calm
