use Rattle.ppp_link_core.proofs.LookFacts.{framed_lives}
use Rattle.ppp_link_core.proofs.link_core.LinkCore.hear_frames.Goals as goal

pub returns-clause-lives : goal.returns-clause-lives
returns-clause-lives g c = framed_lives c.hear_frames.ensures c.requires.lives
