use Rattle.ppp_link_steps.proofs.PostFacts.{taken_close}
use Rattle.ppp_link_steps.proofs.posts.take_post.Goals as goal

pub returns-in-Close-clause-does : goal.returns-in-Close-clause-does
returns-in-Close-clause-does g c = taken_close c.in-Close.is c.take_close.ensures.does
