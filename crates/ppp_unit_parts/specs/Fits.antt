-- Which links belong in one bundle (RFC 1990, section 5.1.3), as far as one bundle tells it.
use Rattle.std.specs.Prelude.{◌≤◌, Option, None, Some, List, length}
use Rattle.ppp_base.specs.Mrru.{MrruPair}
use Rattle.ppp_unit_parts.specs.declared.live.Live.{Live}
use Rattle.ppp_unit_parts.specs.declared.member.Member.{Member}
use Rattle.ppp_unit_parts.specs.Member.{AreInOrder}

-- Any bundle but a multilink bundle has exactly one member, from the first that comes in on.
abbrev pub HasSoMany : Option MrruPair → List Member → Type 0
HasSoMany None members = length members ≤ 1
HasSoMany (Some mrru) members = length members ≤ 16

-- No link is in it twice.
pub record Fits (l : Live) : Type 0 where
  pub order : AreInOrder 0 l.members
  pub count : HasSoMany l.mrru l.members
