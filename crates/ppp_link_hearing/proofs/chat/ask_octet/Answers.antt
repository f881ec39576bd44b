use Rattle.ppp_link_hearing.proofs.ChatFacts.{octet_answer, octet_does, octet_lives}
use Rattle.ppp_link_hearing.proofs.chat.ask_octet.Goals as goal

pub returns-clause-does : goal.returns-clause-does
returns-clause-does g c = octet_does c.args.octet c.requires.chats c.octet.ensures.stands

pub returns-clause-answer : goal.returns-clause-answer
returns-clause-answer g c = octet_answer c.args.octet c.requires.chats c.octet.ensures.answer

pub returns-clause-lives : goal.returns-clause-lives
returns-clause-lives g c = octet_lives c.args.octet c.requires.chats c.octet.ensures.stands c.requires.lives
