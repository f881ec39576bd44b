use Rattle.ppp_link_core.proofs.AuthFacts.{asked_does, asked_told, closed_by, lives_asked, named_by}
use Rattle.ppp_link_core.proofs.link_core.LinkCore.ask_start.Goals as goal

pub returns-in-Some-clause-does : goal.returns-in-Some-clause-does
returns-in-Some-clause-does g c = asked_does c.in-Some.is c.begin.ensures.stands c.begin.ensures.told c.begin.ensures.kept

pub returns-in-Some-clause-answer : goal.returns-in-Some-clause-answer
returns-in-Some-clause-answer g c = asked_told c.in-Some.is c.begin.ensures.stands c.begin.ensures.told c.begin.ensures.kept

pub returns-in-Some-clause-named : goal.returns-in-Some-clause-named
returns-in-Some-clause-named g c = λ some. named_by c.in-Some.is c.begin.ensures.stands c.begin.ensures.told c.begin.ensures.kept c.requires.lives some

pub returns-in-Some-clause-closed : goal.returns-in-Some-clause-closed
returns-in-Some-clause-closed g c = λ some. closed_by c.in-Some.is c.begin.ensures.stands c.begin.ensures.told c.begin.ensures.kept c.requires.lives some

pub returns-in-Some-clause-lives : goal.returns-in-Some-clause-lives
returns-in-Some-clause-lives g c = lives_asked c.in-Some.is c.begin.ensures.stands c.begin.ensures.told c.begin.ensures.kept c.requires.lives
