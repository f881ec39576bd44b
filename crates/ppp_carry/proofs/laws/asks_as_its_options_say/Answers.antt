-- Each row computes.
use Rattle.std.proofs.Common.{refl}
use Rattle.ppp_carry.proofs.laws.asks_as_its_options_say.Goals as goal

pub returns-clause-none : goal.returns-clause-none
returns-clause-none g link c = refl

pub returns-clause-home : goal.returns-clause-home
returns-clause-home g link c = refl

pub returns-clause-unit : goal.returns-clause-unit
returns-clause-unit g link unit c = refl
