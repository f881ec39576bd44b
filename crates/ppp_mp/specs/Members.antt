-- The members of a bundle that packets are cut over, in link order.
use Rattle.std.specs.Prelude.{ℕ, ◌<◌, ◌≤◌, ⊤, List, [], ◌∷◌}
use Rattle.std.specs.List.{fold}
use Rattle.ppp_mp.specs.declared.members.MemberView.{MemberView}

-- Every link is above the one before it, the first above `low`, and each peer takes 128 to 1,500 octets.
abbrev pub AreMembers : (low : ℕ) → List MemberView → Type 0
AreMembers low [] = ⊤
AreMembers low (member ∷ members) = (low < member.link) × (member.link ≤ 16) × (128 ≤ member.mru) × (member.mru ≤ 1500) × AreMembers member.link members

-- the greatest link, `low` where there is none
abbrev pub last_link : (low : ℕ) → List MemberView → ℕ
last_link low members = fold (λ last member. member.link) low members
