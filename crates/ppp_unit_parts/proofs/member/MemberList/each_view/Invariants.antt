use Rattle.std.proofs.Common.{◌≡◌, ℕ, ◌≤◌, ◌++◌, List, length, drop}
use Rattle.ppp_mp.specs.declared.members.MemberView.{MemberView}
use Rattle.ppp_unit_parts.specs.declared.member.Member.{Member}
use Rattle.ppp_unit_parts.specs.Member.{views_of}
use Rattle.ppp_unit_parts.proofs.member.MemberList.each_view.Given as goal

pub record Views (index : ℕ) (members : List Member) (views : List MemberView) : Type 0 where
  pub rest : views ++ views_of (drop index members) ≡ views_of members
  pub few : length views ≤ index
  pub most : length members ≤ 16

abbrev pub invariant-viewing : goal.invariant-viewing
invariant-viewing l = Views l.member-index l.members l.views.items
