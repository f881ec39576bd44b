use Rattle.ppp_chat.specs.ChatState.{rest_of}
use Rattle.ppp_chat.proofs.TalkLemmas.{answers, leaves}
use Rattle.ppp_chat.proofs.chat.Chat.octet.Goals as goal

pub returns-clause-told : goal.returns-clause-told
returns-clause-told c = answers (rest_of c.args.self.now) _ c.hear.new.self c.hear.result c.hear.ensures.goes

pub returns-clause-behind : goal.returns-clause-behind
returns-clause-behind c = leaves (rest_of c.args.self.now) _ c.hear.new.self c.hear.result c.hear.ensures.goes
