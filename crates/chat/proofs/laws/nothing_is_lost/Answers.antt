use Rattle.chat.proofs.TellingLemmas.{clock_tells, line_tells}
use Rattle.chat.proofs.laws.nothing_is_lost.Goals as goal

pub returns-clause-line : goal.returns-clause-line
returns-clause-line g c = line_tells g.I.LineIn.state g.I.LineIn.coming g.C.Clock.state

pub returns-clause-clock : goal.returns-clause-clock
returns-clause-clock g c = clock_tells g.I.LineIn.state g.I.LineIn.coming g.C.Clock.state
