-- What a machine stands for stays so behind a call.
use Rattle.std.proofs.Common.{subst}
use Rattle.ppp_link_rules.specs.LinkState.{LinkState}
use Rattle.ppp_link_core.specs.declared.link_core.LinkCore.{LinkCore}
use Rattle.ppp_link_core.specs.Standing.{Does, Lives, StandsFor, histories_of, state_of}

-- what is so of the state that the machine has with these histories is so of the one that it stands for
pub at_state : {S : Type 0} (c : LinkCore S) (s : LinkState) (P : LinkState → Type 0) → StandsFor c s → P (state_of c (histories_of s)) → P s
at_state c s P k p = subst P k.is p

pub lives_after : {S : Type 0} {rule : LinkState → LinkState} {old new : LinkCore S} → Does rule old new → Lives old → Lives new
lives_after {rule = rule} d l = record { state = rule l.state; stands = d.stands l.state l.stands }
