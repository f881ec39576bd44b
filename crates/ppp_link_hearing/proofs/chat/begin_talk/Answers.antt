use Rattle.ppp_link_hearing.proofs.ChatFacts.{talk_does}
use Rattle.ppp_link_hearing.proofs.chat.begin_talk.Goals as goal

pub returns-clause-does : goal.returns-clause-does
returns-clause-does g c = talk_does c.ask_begin-answer.ensures.answer c.ask_begin-answer.ensures.does c.follow_begin.ensures.does
