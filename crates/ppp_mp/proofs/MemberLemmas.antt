-- Members in link order.
use Rattle.std.proofs.Common.{ℕ, ◌+◌, ◌<◌, ◌≤◌, List, [], ◌∷◌, ◌++◌, length, arith}
use Rattle.ppp_mp.specs.declared.members.MemberView.{MemberView}
use Rattle.ppp_mp.specs.Members.{AreMembers, last_link}

pub few : (members : List MemberView) (low : ℕ) → AreMembers low members → low + length members ≤ last_link low members
few [] low all = omega arith
few (member ∷ members) low all = let h = few members member.link all.4 in let l : low < member.link = all.0 in omega arith

pub added : (members : List MemberView) (low : ℕ) (member : MemberView) → AreMembers low members → last_link low members < member.link → member.link ≤ 16 → 128 ≤ member.mru → member.mru ≤ 1500 → AreMembers low (members ++ member ∷ [])
added [] low member all above link wide most = (above, link, wide, most, tt)
added (first ∷ members) low member all above link wide most = (all.0, all.1, all.2, all.3, added members first.link member all.4 above link wide most)
