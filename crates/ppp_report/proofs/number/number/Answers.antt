use Rattle.std.proofs.Common.{◌≡◌, ◌<◌, ◌≤◌, ◌^◌, ℕ, List, ◌++◌, ◌∙◌, Bool, true, false, refl, ap, sym, subst, length, take, drop, get_or, decimal, arith, rules}
use Rattle.std.proofs.lemmas.List.{take-append-drop}
use Rattle.ppp_base.specs.Numbers.{is_digit, may_be_number, value_behind}
use Rattle.ppp_base.specs.declared.numbers.LeadingZeros.TheVariants.{Refused}
use Rattle.ppp_mark.proofs.LinesLemmas.{rest_is}
use Rattle.ppp_report.specs.Text.{HasNoDigit}
use Rattle.ppp_report.proofs.NumberLemmas.{decimal_form, decimal_value, front_digits, is_spelled, number_parts, was_read}
use Rattle.ppp_report.proofs.number.number.Goals as goal
use Rattle.ppp_report.proofs.number.number.Goals.{then-most-value-via-then-most-value, then-most-value-via-else-most-value+then-not-may_be_number}

-- what the digits at the front are, where the text begins with a number
record Front (text rest : List ℕ) (n end value : ℕ) : Type 0 where
  value_is : value ≡ n
  form : may_be_number Refused (take end text) ≡ true
  rest_is : drop end text ≡ rest

front_is : (text rest : List ℕ) (n end value : ℕ) → n < 2 ^ 64 → HasNoDigit rest → text ≡ decimal n ++ rest → end ≤ length text
    → ((k : ℕ) → k < end → is_digit (get_or text k 0) ≡ true) → (end < length text → is_digit (get_or text end 0) ≡ false)
    → value ≡ value_behind 0 (take end text) → Front text rest n end value
front_is text rest n end value fits other is within digits over spelled =
    let parts = number_parts text rest n end fits other is within digits over in
    record {
      value_is = spelled ∙ ap (λ ds. value_behind 0 ds) parts.0 ∙ decimal_value n fits;
      form = subst (λ ds. may_be_number Refused ds ≡ true) (sym parts.0) (decimal_form n fits);
      rest_is = parts.1;
    }

clash : (form : Bool) → false ≡ form → form ≡ true → ⊥
clash true e f = absurd (cc)
clash false e f = absurd (cc)

pub returns-then-most-value-clause-found : goal.returns-then-most-value-clause-found
returns-then-most-value-clause-found c = λ n rest low other is.
    let f = front_is c.args.text.now rest n c.in-Some.end c.in-Some.value (omega (arith, low, c.ranges.most.fits)) other is
    c.in-Some.ensures.within c.in-Some.ensures.digits c.in-Some.ensures.end c.in-Some.ensures.value in
    elim c.then-most-value.branch [
      | then-most-value-via-then-most-value w ↦ omega (arith, f.value_is, w.if-most-value.true, low)
      | then-most-value-via-else-most-value+then-not-may_be_number w ↦ clash (may_be_number Refused (take c.in-Some.end c.args.text.now)) w.if-not-may_be_number.ensures f.form
    ]

pub returns-clause-sound : goal.returns-clause-sound
returns-clause-sound c =
    let text = c.args.text.now in
    let end = c.in-Some.end in
    let read = was_read (take end text) c.in-Some.value c.args.most
    (is_spelled (take end text) c.in-Some.value c.args.most (front_digits text end c.in-Some.ensures.within c.in-Some.ensures.digits) (sym c.if-not-may_be_number.ensures) c.in-Some.ensures.value (omega arith))
    c.ranges.most.fits in
    (read.0, sym (take-append-drop end text) ∙ ap (λ xs. xs ++ drop end text) read.1 ∙ ap (λ xs. decimal c.in-Some.value ++ xs) (sym (rest_is end text)))

pub returns-clause-found : goal.returns-clause-found
returns-clause-found c = λ n rest low other is.
    let f = front_is c.args.text.now rest n c.in-Some.end c.in-Some.value (omega (arith, low, c.ranges.most.fits)) other is
    c.in-Some.ensures.within c.in-Some.ensures.digits c.in-Some.ensures.end c.in-Some.ensures.value in
    (f.value_is, rest_is c.in-Some.end c.args.text.now ∙ f.rest_is)
