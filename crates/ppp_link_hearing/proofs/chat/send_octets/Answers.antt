use Rattle.ppp_link_hearing.proofs.ChatFacts.{sent_lives}
use Rattle.ppp_link_hearing.proofs.chat.send_octets.Goals as goal

pub returns-clause-lives : goal.returns-clause-lives
returns-clause-lives g c = sent_lives c.args.octets.now c.put.ensures c.requires.lives
