use Rattle.std.proofs.Common.{refl, rules}
use Rattle.ppp_bare.proofs.ActLemmas.{follows_law}
use Rattle.ppp_bare.proofs.bare.Bare.ended.Goals as goal

pub returns-clause-law : goal.returns-clause-law
returns-clause-law g c = follows_law c.self.inside.fsm _ c.ended.new.self (search rules) refl
