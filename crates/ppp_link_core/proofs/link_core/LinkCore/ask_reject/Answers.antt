use Rattle.ppp_link_core.proofs.AskFacts.{asked_at, told_then, lives_asked_at}
use Rattle.ppp_link_core.proofs.link_core.LinkCore.ask_reject.Goals as goal

pub returns-in-Some-clause-does : goal.returns-in-Some-clause-does
returns-in-Some-clause-does g c = asked_at c.in-Some.is c.reject.ensures.calls

pub returns-in-Some-clause-answer : goal.returns-in-Some-clause-answer
returns-in-Some-clause-answer g c = told_then c.in-Some.is c.reject.ensures.calls

pub returns-in-Some-clause-lives : goal.returns-in-Some-clause-lives
returns-in-Some-clause-lives g c = lives_asked_at c.in-Some.is c.reject.ensures.calls c.requires.lives
