-- What contracts see of a unit.
use Rattle.std.specs.Prelude.{ℕ, Bool, false, Option, None, Some, List, []}
use Rattle.ppp_mark.specs.ScriptLog.{ScriptLogState}
use Rattle.ppp_mp.specs.StandsFor.{GatherNow}
use Rattle.ppp_unit_parts.specs.declared.live.Live.{Live}
use Rattle.ppp_unit_parts.specs.declared.member.Member.{Member}
use Rattle.ppp_unit_parts.specs.declared.outbox.BundleEnd.{BundleEnd}
use Rattle.ppp_unit_parts.specs.declared.outbox.Sending.{Sending}
use Rattle.ppp_unit_parts.specs.declared.outbox.UnitCounts.{UnitCounts}
use Rattle.ppp_unit_parts.specs.Live.{is_up}

-- Its number and time; its scripts with their log; how many bundles were made; the bundle that lives, where one does; what gathers pieces; what waits to be sent and given, the
-- first first; how the last step closed the bundle, if it did; and what was dropped.
pub record UnitState (S : Type 0) : Type 0 where
  pub unit : ℕ
  pub time : ℕ
  pub scripts : ScriptLogState S
  pub bundles : ℕ
  pub live : Option Live
  pub gather : GatherNow
  pub sent : List Sending
  pub given : List (List ℕ)
  pub ended : Option BundleEnd
  pub counts : UnitCounts

-- The protocol of a unit is open while IPCP of its bundle is in Opened.
abbrev pub is_open : Option Live → Bool
is_open None = false
is_open (Some l) = is_up l

abbrev pub members_of : Option Live → List Member
members_of None = []
members_of (Some l) = l.members
