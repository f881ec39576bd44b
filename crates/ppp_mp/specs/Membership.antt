-- Who is a member, by looking back.
use Rattle.std.specs.Prelude.{ℕ, ◌≤◌, ◌==◌, Bool, true, false, if◌then◌else◌, List, [], ◌∷◌}
use Rattle.ppp_mp.specs.Delivered.{Entry, Joins, Leaves, Comes}

-- whether a link is a member behind these entries, newest first: the last of them that joins it or leaves joins it
abbrev pub is_member_in : (link : ℕ) → List Entry → Bool
is_member_in link [] = false
is_member_in link (Joins other ∷ past) = if other == link then true else is_member_in link past
is_member_in link (Leaves other ∷ past) = if other == link then false else is_member_in link past
is_member_in link (Comes other fragment ∷ past) = is_member_in link past

-- links are numbered from 1 to 16
abbrev pub IsLink : Entry → Type 0
IsLink (Joins link) = (1 ≤ link) × (link ≤ 16)
IsLink (Leaves link) = (1 ≤ link) × (link ≤ 16)
IsLink (Comes link fragment) = (1 ≤ link) × (link ≤ 16)
