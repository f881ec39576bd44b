use Rattle.ppp_link_hearing.proofs.ChatFacts.{ticked_does}
use Rattle.ppp_link_hearing.proofs.chat.tick_talk.Goals as goal

pub returns-clause-does : goal.returns-clause-does
returns-clause-does g c = ticked_does c.requires.chats c.ask_tick-answer.ensures.answer c.ask_tick-answer.ensures.does c.follow_chat.ensures.does
