-- Numbers as std writes them.
use Rattle.std.proofs.Common.{◌≡◌, ℕ, zero, ◌<◌, ◌≤◌, ◌^◌, Bool, true, false, cond, List, [], ◌∷◌, length, get_or, Some, None, refl, sym, subst, ap, arith, rules, decimal, suc, inl, inr, ◌∙◌}
use Rattle.std.specs.Prelude.{nat_le, ◌&&◌, ◌==◌, not}
use Rattle.std.specs.List.{list_all}
use Rattle.std.proofs.lemmas.Bool.Decides.{nat_tests, eqb_tells}
use Rattle.std.proofs.lemmas.Option.{none-some, cond_some}
use Rattle.std.proofs.lemmas.Str.Parse.{IsNumeralModel, numerals_by_fold}
use Rattle.std.proofs.lemmas.Fmt.{digits_decimal, digits_value-decimal, decimal-digits_value, decimal_nonempty, first_decimal, decimal_digit}
use Rattle.ppp_base.specs.Numbers.{is_digit, value_behind, may_be_number, number_of}
use Rattle.ppp_base.specs.declared.numbers.LeadingZeros.TheVariants.{Refused}

-- this crate's digits and their value are std's
own : IsNumeralModel (λ ds. list_all is_digit ds ≡ true) (value_behind 0)
own = numerals_by_fold _ (search rules) value_behind (search rules)

-- a number of two digits or more does not begin with 0
no_zero_leads : (word : List ℕ) → 0 < length word → (get_or word 0 0 ≡ 48 → length word ≡ 1) → may_be_number Refused word ≡ true
no_zero_leads [] some one = absurd (omega arith)
no_zero_leads (a ∷ []) some one = refl
no_zero_leads (a ∷ b ∷ cs) some one = elim (eqb_tells a 48) [
  | inl p ↦ absurd (omega (arith, one p.1))
  | inr p ↦ rw p.0 refl
]

leads : (n : ℕ) → n < 2 ^ 64 → get_or (decimal n) 0 0 ≡ 48 → length (decimal n) ≡ 1
leads zero small first = ap length (decimal_digit 0 (omega arith))
leads (suc n) small first = absurd (omega (arith, first_decimal (suc n) (omega arith) small))

pub decimal_back : (least most n : ℕ) → least ≤ n → n ≤ most → most < 2 ^ 64 → number_of Refused least most (decimal n) ≡ Some n
decimal_back least most n low high small =
    let fits : n < 2 ^ 64 = omega (arith, low, high, small) in
    let may : may_be_number Refused (decimal n) ≡ true = no_zero_leads (decimal n) (decimal_nonempty n fits) (leads n fits) in
    let digits : list_all is_digit (decimal n) ≡ true = digits_decimal own n fits in
    let value : value_behind 0 (decimal n) ≡ n = digits_value-decimal own n fits in
    let enough : nat_le least n ≡ true = grind (arith, nat_tests) in
    let within : nat_le n most ≡ true = grind (arith, nat_tests) in
    rw (may, digits, value, enough, within) refl

-- what a number that was read says of its word
pub record IsRead (least most n : ℕ) (word : List ℕ) : Type 0 where
  digits : list_all is_digit word ≡ true
  value : value_behind 0 word ≡ n
  low : nat_le least n ≡ true
  high : nat_le n most ≡ true
  form : may_be_number Refused word ≡ true

formed : (form all : Bool) (value n : ℕ) → cond form (cond all (Some value) None) None ≡ Some n → (form ≡ true) × (cond all (Some value) None ≡ Some n)
formed true all value n e = (refl, e)
formed false all value n e = absurd (none-some n e)

both : (a b : Bool) → (a && b) ≡ true → (a ≡ true) × (b ≡ true)
both true b e = (refl, e)
both false b e = absurd (cc)

read_parts : (least most n : ℕ) (word : List ℕ) → number_of Refused least most word ≡ Some n → IsRead least most n word
read_parts least most n word read =
    let form = formed (may_be_number Refused word) (list_all is_digit word && (nat_le least (value_behind 0 word) && nat_le (value_behind 0 word) most)) (value_behind 0 word) n read in
    let all = cond_some (list_all is_digit word && (nat_le least (value_behind 0 word) && nat_le (value_behind 0 word) most)) (value_behind 0 word) n form.1 in
    let digits = both (list_all is_digit word) (nat_le least (value_behind 0 word) && nat_le (value_behind 0 word) most) all.0 in
    let range = both (nat_le least (value_behind 0 word)) (nat_le (value_behind 0 word) most) digits.1 in
    record {
      digits = digits.0;
      value = all.1;
      low = subst (λ x. nat_le least x ≡ true) all.1 range.0;
      high = subst (λ x. nat_le x most ≡ true) all.1 range.1;
      form = form.0;
    }

first_alone : (word : List ℕ) → may_be_number Refused word ≡ true → (0 < length word) × (get_or word 0 0 ≡ 48 → length word ≡ 1)
first_alone [] form = absurd (cc)
first_alone (a ∷ []) form = (omega arith, λ e. refl)
first_alone (a ∷ b ∷ cs) form = (omega arith, λ e. absurd (go (a == 48) (a_zero a e) form))
  where
    a_zero : (a : ℕ) → a ≡ 48 → (a == 48) ≡ true
    a_zero a e = elim (eqb_tells a 48) [ inl p ↦ p.0 | inr p ↦ absurd (p.1 e) ]

    go : (test : Bool) → test ≡ true → not test ≡ true → ⊥
    go true e f = cc
    go false e f = cc

pub decimal_alone : (least most n : ℕ) (word : List ℕ) → most < 2 ^ 64 → number_of Refused least most word ≡ Some n → word ≡ decimal n
decimal_alone least most n word small read =
    let parts = read_parts least most n word read in
    let form = first_alone word parts.form in
    let within : n ≤ most = grind (arith, nat_tests, parts.high) in
    let fits : value_behind 0 word < 2 ^ 64 = omega (arith, parts.value, within, small) in
    sym (decimal-digits_value own word parts.digits form.0 form.1 fits) ∙ ap decimal parts.value

-- a number that was read is in its range
pub number_is_within : (least most n : ℕ) (word : List ℕ) → number_of Refused least most word ≡ Some n → (least ≤ n) × (n ≤ most)
number_is_within least most n word read =
    let parts = read_parts least most n word read in
    (grind (arith, nat_tests, parts.low), grind (arith, nat_tests, parts.high))
