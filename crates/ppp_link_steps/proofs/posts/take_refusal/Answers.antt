use Rattle.ppp_link_steps.proofs.PostFacts.{refused_calm}
use Rattle.ppp_link_steps.proofs.posts.take_refusal.Goals as goal

pub returns-clause-calm : goal.returns-clause-calm
returns-clause-calm g c = refused_calm c.args.stay c.args.reason c.refuse_stay.ensures.does c.requires.calm
