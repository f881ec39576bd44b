use Rattle.ppp_link_core.proofs.PostFacts.{refusal_lives}
use Rattle.ppp_link_core.proofs.link_core.LinkCore.mark_refused.Goals as goal

pub returns-clause-lives : goal.returns-clause-lives
returns-clause-lives g c = refusal_lives c.args.reason c.mark_refused.ensures.new c.mark_refused.ensures.dials c.requires.lives
