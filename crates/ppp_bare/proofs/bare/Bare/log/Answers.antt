use Rattle.std.proofs.Common.{refl}
use Rattle.ppp_bare.proofs.ActLemmas.{follows_law}
use Rattle.ppp_bare.proofs.bare.Bare.log.Goals as goal

pub returns-clause-law : goal.returns-clause-law
returns-clause-law g c = rw (← c.self.view_is) (follows_law c.self.inside.fsm _ c.self.inside.scripts c.self.invariant refl)
