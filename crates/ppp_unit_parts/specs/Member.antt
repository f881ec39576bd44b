-- The members of a bundle, in link order.
use Rattle.std.specs.Prelude.{ℕ, suc, ◌==◌, ◌<◌, ◌≤◌, ⊤, nat_lt, not, Bool, Option, None, Some, List, [], ◌∷◌, ◌++◌, filter, map, if◌then◌else◌}
use Rattle.std.specs.List.{list_any}
use Rattle.ppp_mp.specs.declared.members.MemberView.{MemberView}
use Rattle.ppp_unit_parts.specs.declared.member.Member.{Member}

abbrev pub member : ℕ → ℕ → ℕ → Member
member link stay mru = record { link = link; stay = stay; mru = mru }

abbrev pub is_link : ℕ → Member → Bool
is_link link m = m.link == link

abbrev pub has_link : ℕ → List Member → Bool
has_link link members = list_any (is_link link) members

-- how many have lesser links
abbrev pub below : ℕ → List Member → ℕ
below link [] = 0
below link (m ∷ members) = if nat_lt m.link link then suc (below link members) else below link members

-- A member comes in at its place in link order.
abbrev pub with_member : Member → List Member → List Member
with_member m members = filter (λ (other : Member). nat_lt other.link m.link) members ++ m ∷ filter (λ (other : Member). nat_lt m.link other.link) members

-- A member goes out.
abbrev pub without : ℕ → List Member → List Member
without link members = filter (λ m. not (is_link link m)) members

-- the stay of a link, where it is a member
abbrev pub stay_of : ℕ → List Member → Option ℕ
stay_of link [] = None
stay_of link (m ∷ members) = if is_link link m then Some m.stay else stay_of link members

-- as packets are cut over them
abbrev pub views_of : List Member → List MemberView
views_of members = map (λ (m : Member). record { link = m.link; mru = m.mru }) members

-- Each link is above the one before it, which is at least `low`, and each peer takes 128 to 1,500 octets.
abbrev pub AreInOrder : (low : ℕ) → List Member → Type 0
AreInOrder low [] = ⊤
AreInOrder low (m ∷ members) = (low < m.link) × (m.link ≤ 16) × (128 ≤ m.mru) × (m.mru ≤ 1500) × AreInOrder m.link members
