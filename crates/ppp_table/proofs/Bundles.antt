-- A bundle is made where none lives, so that of the marks at most one in two is one of them.
use Rattle.std.proofs.Common.{◌≡◌, ◌≤◌, ◌<◌, ◌+◌, ◌*◌, ◌==◌, ℕ, Bool, true, false, Option, None, Some, IsSome, is_some, List, [], ◌∷◌, length, refl, ap, sym, subst, ◌∙◌, arith}
use Rattle.std.proofs.lemmas.Bool.Decides.{nat_tests}
use Rattle.std.specs.Prelude.{if◌then◌else◌}
use Rattle.ppp_mark.specs.declared.mark.Mark.{Mark}
use Rattle.ppp_mark.specs.declared.kind.TheConstants.{MADE, UNMADE}
use Rattle.ppp_bundle.specs.MayStand.{AllMayStand, MayStandHere}
use Rattle.ppp_bundle.specs.Replay.{bundle_in, bundles_in}

abbrev pub one_if : Option ℕ → ℕ
one_if None = 0
one_if (Some n) = 1

is_kind : (a b : ℕ) → (a == b) ≡ true → a ≡ b
is_kind a b e = grind (arith, nat_tests)

at_most_one : (o : Option ℕ) → one_if o ≤ 1
at_most_one None = omega arith
at_most_one (Some n) = omega arith

of_some : (o : Option ℕ) (n : ℕ) → o ≡ Some n → one_if o ≡ 1
of_some o n e = rw e refl

one_mark : (a b : Bool) (m : Mark) (past : List Mark) → (m.kind == MADE) ≡ a → (m.kind == UNMADE) ≡ b → MayStandHere past m
    → 2 * bundles_in 0 past ≤ length past + one_if (bundle_in past)
    → 2 * (if a then bundles_in 0 past + 1 else bundles_in 0 past) ≤ length past + 1 + one_if (if a then Some m.z else if b then None else bundle_in past)
one_mark true b m past e f may rest =
    let none : one_if (bundle_in past) ≡ 0 = ap one_if (may.made (is_kind m.kind MADE e)).0 in
    omega (arith, rest, none)
one_mark false true m past e f may rest =
    let one : one_if (bundle_in past) ≤ 1 = at_most_one (bundle_in past) in
    omega (arith, rest, one)
one_mark false false m past e f may rest = omega (arith, rest)

half : (past : List Mark) → AllMayStand past → 2 * bundles_in 0 past ≤ length past + one_if (bundle_in past)
half [] all = omega arith
half (m ∷ past) all =
    let one : _ = one_mark (m.kind == MADE) (m.kind == UNMADE) m past refl refl all.0 (half past all.1) in
    omega (arith, one)

pub few : (past : List Mark) → AllMayStand past → length past ≤ 4294967295 → bundles_in 0 past < 4294967295
few past all short =
    let h : 2 * bundles_in 0 past ≤ length past + one_if (bundle_in past) = half past all in
    let one : one_if (bundle_in past) ≤ 1 = at_most_one (bundle_in past) in
    omega (arith, h, one, short)
