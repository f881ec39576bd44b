use Rattle.ppp_link_hearing.proofs.FrameFacts.{posted_lives}
use Rattle.ppp_link_hearing.proofs.frames.post_frame.Goals as goal

pub returns-clause-lives : goal.returns-clause-lives
returns-clause-lives g c = posted_lives c.args.protocol c.args.information.now c.put_frame.ensures.value c.requires.lives
