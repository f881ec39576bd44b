use Rattle.ppp_link_core.proofs.AskFacts.{asked_does, asked_told, lives_asked}
use Rattle.ppp_link_core.proofs.link_core.LinkCore.ask_heard.Goals as goal

pub returns-in-Some-clause-does : goal.returns-in-Some-clause-does
returns-in-Some-clause-does g c = asked_does c.in-Some.is c.heard.ensures.calls

pub returns-in-Some-clause-answer : goal.returns-in-Some-clause-answer
returns-in-Some-clause-answer g c = asked_told c.in-Some.is c.heard.ensures.calls

pub returns-in-Some-clause-lives : goal.returns-in-Some-clause-lives
returns-in-Some-clause-lives g c = lives_asked c.in-Some.is c.heard.ensures.calls c.requires.lives
