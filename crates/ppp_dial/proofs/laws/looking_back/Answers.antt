use Rattle.ppp_dial.proofs.LookingBackLemmas.{failures-at, failures-none, last-at, last-none, stopped-at, stopped-none}
use Rattle.ppp_dial.proofs.laws.looking_back.Goals as goal

pub returns-clause-last : goal.returns-clause-last
returns-clause-last c = last-at

pub returns-clause-none : goal.returns-clause-none
returns-clause-none c = last-none

pub returns-clause-failures : goal.returns-clause-failures
returns-clause-failures c = failures-at

pub returns-clause-only_failures : goal.returns-clause-only_failures
returns-clause-only_failures c = failures-none

pub returns-clause-stop : goal.returns-clause-stop
returns-clause-stop c = stopped-at

pub returns-clause-no_stop : goal.returns-clause-no_stop
returns-clause-no_stop c = stopped-none
