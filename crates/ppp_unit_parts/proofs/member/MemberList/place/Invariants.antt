use Rattle.std.proofs.Common.{◌≡◌, ℕ, ◌+◌, ◌≤◌, List, drop}
use Rattle.ppp_unit_parts.specs.declared.member.Member.{Member}
use Rattle.ppp_unit_parts.specs.Member.{below}
use Rattle.ppp_unit_parts.proofs.member.MemberList.place.Given as goal

pub record Places (link place index : ℕ) (members : List Member) : Type 0 where
  pub rest : place + below link (drop index members) ≡ below link members
  pub few : place ≤ index

abbrev pub invariant-placing : goal.invariant-placing
invariant-placing l = Places l.link l.place l.member-index l.members
