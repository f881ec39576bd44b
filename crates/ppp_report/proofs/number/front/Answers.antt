use Rattle.std.proofs.Common.{◌≡◌, ℕ, ◌<◌, ◌≤◌, ◌+◌, ◌*◌, ◌-◌, List, true, get_or, take, refl, ap, subst, sym, ◌∙◌, arith, inl, inr}
use Rattle.std.proofs.lemmas.Bool.Decides.{nat_tests, eqb_tells}
use Rattle.ppp_base.specs.Numbers.{is_digit, value_behind}
use Rattle.ppp_report.proofs.NumberLemmas.{one_more_fits, one_more_low, front_place, value_goes_on}
use Rattle.ppp_report.proofs.number.front.Goals as goal

is_one : (octet : ℕ) → 48 ≤ octet → octet ≤ 57 → is_digit octet ≡ true
is_one octet low high = grind (arith, nat_tests)

one_more : (text : List ℕ) (i k : ℕ) → ((k : ℕ) → k < i → is_digit (get_or text k 0) ≡ true) → is_digit (get_or text i 0) ≡ true
    → k < i + 1 → is_digit (get_or text k 0) ≡ true
one_more text i k before now low = elim (eqb_tells k i) [
  | inl p ↦ subst (λ at. is_digit (get_or text at 0) ≡ true) (sym p.1) now
  | inr p ↦ before k (omega (arith, low, p.1))
]

pub loop-i-init : goal.loop-i-init
loop-i-init c = (λ k low. absurd (omega (arith, low)), refl, omega arith)

pub loop-i-preserved : goal.loop-i-preserved
loop-i-preserved c =
    let text = c.args.text.now in
    let i = c.loop-i.i in
    let at = front_place text c.min-most.result i (omega (arith, c.min-most.ensures)) c.loop-i-test.true in
    let low : 48 ≤ get_or text i 0 = omega (arith, at.1, c.if-octet-lt48.false) in
    let high : get_or text i 0 ≤ 57 = omega (arith, at.1, c.if-octet-gt57.false) in
    let digit : c.from.result ≡ get_or text i 0 - 48 = omega (arith, at.1, c.from.ensures) in (
      λ k before. one_more text i k c.loop-i.invariant.0 (is_one (get_or text i 0) low high) before,
      ap (λ v. v * 10 + c.from.result) c.loop-i.invariant.1
          ∙ ap (λ d. value_behind 0 (take i text) * 10 + d) digit
          ∙ value_goes_on text i (omega (arith, at.0, c.min-most.ensures)),
      one_more_low c.loop-i.value c.from.result i c.loop-i.invariant.2 (omega (arith, digit, high)),
    )

pub overflow_mul-value : goal.overflow_mul-value
overflow_mul-value c =
    let at = front_place c.args.text.now c.min-most.result c.loop-i.i (omega (arith, c.min-most.ensures)) c.loop-i-test.true in
    omega (arith, one_more_fits c.loop-i.value 0 c.loop-i.i c.loop-i.invariant.2 (omega (arith, at.0, c.min-most.ensures)) (omega arith))

pub overflow_add-value : goal.overflow_add-value
overflow_add-value c =
    let at = front_place c.args.text.now c.min-most.result c.loop-i.i (omega (arith, c.min-most.ensures)) c.loop-i-test.true in
    omega (
      arith,
      one_more_fits c.loop-i.value c.from.result c.loop-i.i c.loop-i.invariant.2 (omega (arith, at.0, c.min-most.ensures))
          (omega (arith, c.from.ensures, c.if-octet-gt57.false)),
    )
