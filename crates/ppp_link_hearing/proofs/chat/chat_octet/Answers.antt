use Rattle.ppp_link_hearing.proofs.ChatFacts.{heard_does}
use Rattle.ppp_link_hearing.proofs.chat.chat_octet.Goals as goal

pub returns-clause-does : goal.returns-clause-does
returns-clause-does g c = heard_does c.args.octet c.requires.chats c.ask_octet-answer.ensures.answer c.ask_octet-answer.ensures.does c.follow_chat.ensures.does
