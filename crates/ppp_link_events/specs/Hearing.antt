-- A piece's octets, in the steps of the code: they are counted, and then heard front by front.
use Rattle.std.specs.Prelude.{ℕ}
use Rattle.ppp_outside.specs.Counts.{raised}
use Rattle.ppp_link_core.specs.declared.link_core.LinkCore.{LinkCore}
use Rattle.ppp_link_core.specs.Standing.{StandsFor}
use Rattle.ppp_link_facts.specs.Budget.{BetweenOctets}
use Rattle.ppp_link_rules.specs.LinkState.{LinkState}

-- so many octets more were taken
abbrev pub with_taken : ℕ → LinkState → LinkState
with_taken count s = record s { taken = raised s.taken count }

-- The machine stands for a state between two octets.
pub record Hears {S : Type 0} (c : LinkCore S) : Type 0 where
  pub state : LinkState
  pub stands : StandsFor c state
  pub between : BetweenOctets state
