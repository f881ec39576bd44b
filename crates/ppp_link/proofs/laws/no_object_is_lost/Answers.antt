use Rattle.ppp_link.proofs.DialFacts.{each-moves, failed-moves, read_moves, written_moves}
use Rattle.ppp_link.proofs.laws.no_object_is_lost.Goals as goal

pub returns-clause-none : goal.returns-clause-none
returns-clause-none c event s e i = each-moves event s e i

pub returns-clause-read : goal.returns-clause-read
returns-clause-read c link session how s i = read_moves link session how s i

pub returns-clause-written : goal.returns-clause-written
returns-clause-written c link session how s i = written_moves link session how s i

pub returns-clause-failed : goal.returns-clause-failed
returns-clause-failed c link session failed s i = failed-moves link session failed s i
