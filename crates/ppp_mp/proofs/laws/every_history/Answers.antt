use Rattle.ppp_mp.proofs.Histories.{delivered_some, delivered_once, takes_once}
use Rattle.ppp_mp.proofs.laws.every_history.Goals as goal

pub returns-clause-some : goal.returns-clause-some
returns-clause-some c = delivered_some

pub returns-clause-one : goal.returns-clause-one
returns-clause-one c = delivered_once

pub returns-clause-answer : goal.returns-clause-answer
returns-clause-answer c = takes_once
