-- In a plain bundle the one member that goes out is the last.
use Rattle.std.proofs.Common.{◌≡◌, ℕ, ◌≤◌, Bool, true, false, cond, None, Some, List, [], ◌∷◌, length, refl, arith}
use Rattle.ppp_unit_parts.specs.declared.member.Member.{Member}
use Rattle.ppp_unit_parts.specs.Member.{is_link, stay_of, without}

without_one : (b : Bool) (m : Member) (stay : ℕ) → cond b (Some m.stay) None ≡ Some stay → b ≡ true
without_one true m stay e = refl
without_one false m stay e = absurd (cc e)

pub alone : (members : List Member) (link stay : ℕ) → length members ≤ 1 → stay_of link members ≡ Some stay → without link members ≡ []
alone [] link stay few e = refl
alone (m ∷ []) link stay few e = rw (without_one (is_link link m) m stay e) refl
alone (m ∷ n ∷ members) link stay few e = absurd (omega (arith, few))
