-- What holds of a router whatever happens to it: over every interleaving of octets in any pieces, ticks, datagrams, signals, and starts, failures and ends of lines and scripts on up
-- to sixteen links.
use Rattle.std.specs.List.{AllByRecursion}
use Rattle.std.specs.Prelude.{ℕ, ◌≡◌, Option, None, Some, IfSome, List}
use Rattle.ppp_bundle.specs.Lives.{HasItsHistory}
use Rattle.ppp_bundle.specs.State.{UnitState, is_open}
use Rattle.ppp_link_rules.specs.Facts.{is_protocol_open}
use Rattle.ppp_link_rules.specs.LinkState.{LinkState}
use Rattle.ppp_mark.specs.Scripts.{LogLaw, LogSettled}
use Rattle.ppp_outside.specs.declared.replay_spawner.ReplaySpawner.{ReplaySpawner}
use Rattle.ppp_table.specs.Fits.{AllFit, AreApart, AreTogether}
use Rattle.ppp_world_rules.specs.Place.{PlaceState}
use Rattle.ppp_world_rules.specs.Router.{Router}

-- The auth scripts of a link alternate, auth-up first, one at a time; when none runs, the last was auth-up exactly where its peer must prove itself, has done so, and LCP hasn't left
-- Opened since. (LCP is kept as its calls, and its state is what the table of RFC 1661, section 4.1, makes of them: `lcp_state`.)
pub record LinkKeeps (s : LinkState) : Type 0 where
  pub law : LogLaw 0 s.log.past
  pub settled : LogSettled s.log.past (is_protocol_open s)

-- The ip scripts of a unit alternate, ip-up first, one at a time; when none runs, the last was ip-up exactly where IPCP is in Opened. Its bundle, where it has one, has a history: IPCP is
-- what the table of RFC 1661 makes of the calls in it, and what is gathered are the pieces of its members.
pub record UnitKeeps (u : UnitState ReplaySpawner) : Type 0 where
  pub law : LogLaw 0 u.scripts.log.past
  pub settled : LogSettled u.scripts.log.past (is_open u.live)
  pub history : HasItsHistory u

-- Of each link and unit; and members match their bundle: no link is in two, each member has its bundle's key and MRRU pair, a plain bundle has one, and members with one key are in one.
pub record Headline (r : Router) : Type 0 where
  pub links : AllByRecursion (λ (p : PlaceState). LinkKeeps p.link) r.links
  pub units : AllByRecursion UnitKeeps r.table.units
  pub apart : AreApart r.table.units
  pub fit : AllFit r.table.sides r.table.units
  pub together : AreTogether r.table.sides r.table.units
