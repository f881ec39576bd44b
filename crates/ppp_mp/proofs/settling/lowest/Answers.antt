use Rattle.std.proofs.Common.{◌≡◌, ℕ, List, [], ◌∷◌, Option, None, Some, min, length, ◌≤◌, refl, sym, ap, ◌∙◌, arith}
use Rattle.std.proofs.Math.ListN.{get_or}
use Rattle.std.specs.List.{fold}
use Rattle.ppp_mp.specs.Delivered.{lesser, lowest}
use Rattle.ppp_mp.proofs.settling.lowest.Goals as goal

-- None is less than 0.
zero_least : (overs : List (Option ℕ)) → fold lesser (Some 0) overs ≡ Some 0
zero_least [] = refl
zero_least (None ∷ overs) = zero_least overs
zero_least (Some n ∷ overs) = let e : min 0 n ≡ 0 = omega arith in ap (λ (m : ℕ). fold lesser (Some m) overs) e ∙ zero_least overs

first_zero : (left : List (Option ℕ)) (least now : Option ℕ) → 1 ≤ length left → now ≡ lesser least (get_or left 0 None) → now ≡ Some 0 → fold lesser least left ≡ Some 0
first_zero [] least now some is zero = absurd (omega arith)
first_zero (over ∷ left) least now some is zero = ap (λ (o : Option ℕ). fold lesser o left) (sym is ∙ zero) ∙ zero_least left

pub returns-in-Some-eq0 : goal.returns-in-Some-eq0
returns-in-Some-eq0 c =
    let zero : c.lesser-least.result ≡ Some 0 = c.in-Some-eq0.is ∙ ap (λ (n : ℕ). Some n) (sym c.in-Some-eq0.field-0-is ∙ c.in-Some-eq0.field-0-test) in
    let so_far : fold lesser c.loop-left.least c.loop-left.left.now ≡ lowest c.args.overs.now = c.loop-left.invariant in
    zero ∙ sym (first_zero c.loop-left.left.now c.loop-left.least c.lesser-least.result c.in-len1-up.len_at_least c.lesser-least.ensures zero) ∙ so_far
