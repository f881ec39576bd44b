use Rattle.std.proofs.Common.{◌≡◌, ◌∙◌, ℕ, ◌<◌, ◌≤◌, ◌+◌, ◌-◌, List, true, min, get_or, take, length, refl, ap, sym, subst, arith, inl, inr}
use Rattle.std.proofs.Math.Seq.{take-length}
use Rattle.std.proofs.lemmas.Bool.Decides.{eqb_tells, nat_tests}
use Rattle.ppp_base.specs.Numbers.{is_digit, value_behind}
use Rattle.ppp_report.proofs.NumberLemmas.{all_from, value_goes_on}
use Rattle.ppp_trace.proofs.SectionLemmas.{saturates}
use Rattle.ppp_trace.proofs.sections.count_of.Goals as goal

is_one : (octet : ℕ) → 48 ≤ octet → octet ≤ 57 → is_digit octet ≡ true
is_one octet low high = grind (arith, nat_tests)

one_more : (text : List ℕ) (i k : ℕ) → ((k : ℕ) → k < i → is_digit (get_or text k 0) ≡ true) → is_digit (get_or text i 0) ≡ true
    → k < i + 1 → is_digit (get_or text k 0) ≡ true
one_more text i k before now low = elim (eqb_tells k i) [
  | inl p ↦ subst (λ at. is_digit (get_or text at 0) ≡ true) (sym p.1) now
  | inr p ↦ before k (omega (arith, low, p.1))
]

pub loop-digit-preserved : goal.loop-digit-preserved
loop-digit-preserved c =
    let digits = c.args.digits.now in
    let i = c.loop-digit.digit-index in (
      λ k low. one_more digits i k c.loop-digit.invariant.0 (is_one (get_or digits i 0) c.if-digit-lt48.false c.if-digit-gt57.false) low,
      saturates c.loop-digit.count (value_behind 0 (take i digits)) (get_or digits i 0 - 48) c.saturating_mul.result c.saturating_add-count.result c.loop-digit.invariant.1 c.saturating_mul.ensures
          (c.saturating_add-count.ensures ∙ ap (λ d. min (c.saturating_mul.result + d) 18446744073709551615) c.from.ensures)
          ∙ ap (λ v. min v 18446744073709551615) (value_goes_on digits i c.loop-digit-test.true),
    )

pub returns : goal.returns
returns c =
    let digits = c.args.digits.now in
    let whole : c.loop-digit.digit-index ≡ length digits = omega (arith, c.loop-digit-test.false, c.loop-digit.auto.digit-index-end) in (
      value_behind 0 digits,
      record {
        form = sym c.if-not-has_form.ensures;
        all = all_from digits (λ k low. c.loop-digit.invariant.0 k (omega (arith, low, whole)));
        value = refl;
      },
      c.loop-digit.invariant.1 ∙ ap (λ n. min (value_behind 0 (take n digits)) 18446744073709551615) whole ∙ ap (λ ds. min (value_behind 0 ds) 18446744073709551615) (take-length digits),
    )
