use Rattle.ppp_link_core.proofs.SendFacts.{sent_lives}
use Rattle.ppp_link_core.proofs.link_core.LinkCore.send.Goals as goal

pub returns-clause-lives : goal.returns-clause-lives
returns-clause-lives g c = sent_lives c.args.protocol c.args.information.now c.settings-settings.ensures.stands c.put_frame.ensures c.requires.lives
