use Rattle.std.proofs.Common.{◌≡◌, ℕ, ◌≤◌, ◌++◌, List, length, drop}
use Rattle.ppp_unit_parts.specs.declared.member.Member.{Member}
use Rattle.ppp_unit_parts.specs.Member.{without}
use Rattle.ppp_unit_parts.proofs.member.MemberList.without.Given as goal

pub record Leaves (link index : ℕ) (members list : List Member) : Type 0 where
  pub rest : list ++ without link (drop index members) ≡ without link members
  pub few : length list ≤ index
  pub most : length members ≤ 16

abbrev pub invariant-leaving : goal.invariant-leaving
invariant-leaving l = Leaves l.link l.member-index l.members l.list.items
