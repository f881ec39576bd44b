use Rattle.ppp_link_hearing.proofs.ChatFacts.{tick_answer, tick_does, tick_lives}
use Rattle.ppp_link_hearing.proofs.chat.ask_tick.Goals as goal

pub returns-clause-does : goal.returns-clause-does
returns-clause-does g c = tick_does c.requires.chats c.tick.ensures.stands

pub returns-clause-answer : goal.returns-clause-answer
returns-clause-answer g c = tick_answer c.requires.chats c.tick.ensures.answer

pub returns-clause-lives : goal.returns-clause-lives
returns-clause-lives g c = tick_lives c.requires.chats c.tick.ensures.stands c.requires.lives
