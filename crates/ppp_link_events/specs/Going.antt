-- What is so of a link's machine between two steps, and what an event and an errand leave of it.
use Rattle.std.specs.Prelude.{◌≡◌, true}
use Rattle.ppp_link_core.specs.declared.link_core.LinkCore.{LinkCore}
use Rattle.ppp_link_core.specs.Standing.{Sits, StandsFor, opened}
use Rattle.ppp_link_facts.specs.LinkStands.{LinkStands}
use Rattle.ppp_link_rules.specs.LinkEvent.{Event}
use Rattle.ppp_link_rules.specs.LinkPart.{after, is_present}
use Rattle.ppp_link_rules.specs.LinkState.{LinkState}
use Rattle.ppp_link_steps.specs.Calm.{Calm}

-- The machine stands for a state of which all holds that is proved of a link between two steps.
pub record IsGoing {S : Type 0} (c : LinkCore S) (s : LinkState) : Type 0 where
  pub stands : StandsFor c s
  pub holds : LinkStands s

-- It does so for some state, and is calm.
pub record Goes {S : Type 0} (c : LinkCore S) : Type 0 where
  pub state : LinkState
  pub going : IsGoing c state
  pub sits : Sits (opened c.lcp) c
  pub calm : Calm c

-- An event was taken: each state that the machine went in and at which the event is present has become what the event leaves.
pub record Takes {S : Type 0} (event : Event) (old new : LinkCore S) : Type 0 where
  pub leaves : (s : LinkState) → IsGoing old s → is_present event s ≡ true → IsGoing new (after event s)

-- An errand was given.
pub record Gives {S : Type 0} (rule : LinkState → LinkState) (old new : LinkCore S) : Type 0 where
  pub leaves : (s : LinkState) → IsGoing old s → IsGoing new (rule s)
