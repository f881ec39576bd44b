use Rattle.ppp_link_hearing.proofs.ChatFacts.{begun_answer, begun_does, begun_lives}
use Rattle.ppp_link_hearing.proofs.chat.ask_begin.Goals as goal

pub returns-clause-does : goal.returns-clause-does
returns-clause-does g c = begun_does _ c.begin.ensures.some c.begin.ensures.stands c.begin.ensures.none

pub returns-clause-answer : goal.returns-clause-answer
returns-clause-answer g c = begun_answer _ _ c.begin.ensures.some c.begin.ensures.stands

pub returns-clause-lives : goal.returns-clause-lives
returns-clause-lives g c = begun_lives _ c.begin.ensures.some c.begin.ensures.stands c.begin.ensures.none c.requires.lives
