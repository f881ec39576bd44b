-- Numbers at the front of a text.
use Rattle.std.proofs.Common.{◌≡◌, ℕ, zero, suc, ◌<◌, ◌≤◌, ◌^◌, ◌+◌, ◌-◌, ◌*◌, Bool, true, false, List, [], ◌∷◌, ◌++◌, length, take, drop, get_or, cond, Option, None, Some, refl, sym, subst, ap, ◌∙◌, arith, rules, decimal}
use Rattle.std.specs.Prelude.{◌&&◌, nat_le}
use Rattle.std.proofs.lemmas.Bool.Decides.{nat_tests}
use Rattle.std.specs.List.{list_all}
use Rattle.std.proofs.lemmas.Str.Parse.{IsNumeralModel, numerals_by_fold}
use Rattle.std.proofs.lemmas.Fmt.{decimal_digit, decimal_nonempty, digits_decimal, digits_value-decimal}
use Rattle.std.proofs.lemmas.Option.{none-some}
use Rattle.std.proofs.Math.Seq.{take-append_seam}
use Rattle.std.proofs.lemmas.List.{get_or-take, length-take-le, take_more}
use Rattle.ppp_base.specs.Numbers.{is_digit, may_be_number, number_of, value_behind}
use Rattle.ppp_base.specs.declared.numbers.LeadingZeros.TheVariants.{Refused}
use Rattle.ppp_base.proofs.Decimals.{decimal_back, decimal_alone, number_is_within}
use Rattle.ppp_report.specs.Text.{HasNoDigit}

own : IsNumeralModel (λ ds. list_all is_digit ds ≡ true) (value_behind 0)
own = numerals_by_fold _ (search rules) value_behind (search rules)

pub all_digits : (n : ℕ) → n < 2 ^ 64 → list_all is_digit (decimal n) ≡ true
all_digits n fits = digits_decimal own n fits

first-true : (a b : Bool) → (a && b) ≡ true → a ≡ true
first-true true b e = refl
first-true false b e = absurd (cc)

rest-true : (a b : Bool) → (a && b) ≡ true → b ≡ true
rest-true true b e = e
rest-true false b e = absurd (cc)

clash : (b : Bool) → b ≡ true → b ≡ false → ⊥
clash true e f = absurd (cc f)
clash false e f = absurd (cc e)

-- where the digits end
pub digits_end : (front rest : List ℕ) (end : ℕ) → list_all is_digit front ≡ true → HasNoDigit rest → end ≤ length (front ++ rest)
    → ((k : ℕ) → k < end → is_digit (get_or (front ++ rest) k 0) ≡ true)
    → (end < length (front ++ rest) → is_digit (get_or (front ++ rest) end 0) ≡ false) → end ≡ length front
digits_end [] rest zero all other within digits over = refl
digits_end [] [] (suc end) all other within digits over = absurd (omega (arith, within))
digits_end [] (b ∷ rest) (suc end) all other within digits over = absurd (clash (is_digit b) (digits 0 (omega arith)) other)
digits_end (b ∷ front) rest zero all other within digits over =
    absurd (clash (is_digit b) (first-true (is_digit b) (list_all is_digit front) all) (over (omega arith)))
digits_end (b ∷ front) rest (suc end) all other within digits over =
    ap suc (digits_end front rest end (rest-true (is_digit b) (list_all is_digit front) all) other (omega (arith, within))
    (λ k h. digits (suc k) (omega (arith, h))) (λ h. over (omega (arith, h))))

-- the number before that end, and what follows
pub number_parts : (text rest : List ℕ) (n end : ℕ) → n < 2 ^ 64 → HasNoDigit rest → text ≡ decimal n ++ rest → end ≤ length text
    → ((k : ℕ) → k < end → is_digit (get_or text k 0) ≡ true) → (end < length text → is_digit (get_or text end 0) ≡ false)
    → (take end text ≡ decimal n) × (drop end text ≡ rest)
number_parts text rest n end fits other is within digits over =
    let place : end ≡ length (decimal n) =
    digits_end (decimal n) rest end (all_digits n fits) other
    (subst (λ xs. end ≤ length xs) is within)
    (subst (λ xs. (k : ℕ) → k < end → is_digit (get_or xs k 0) ≡ true) is digits)
    (subst (λ xs. end < length xs → is_digit (get_or xs end 0) ≡ false) is over) in (
      ap (λ xs. take end xs) is ∙ ap (λ i. take i (decimal n ++ rest)) place ∙ take-append_seam (decimal n) rest,
      ap (λ xs. drop end xs) is ∙ ap (λ i. drop i (decimal n ++ rest)) place ∙ drop_seam (decimal n) rest,
    )
  where
    drop_seam : (xs ys : List ℕ) → drop (length xs) (xs ++ ys) ≡ ys
    drop_seam [] ys = refl
    drop_seam (x ∷ xs) ys = drop_seam xs ys

-- what is read of it
pub is_read : (word : List ℕ) (n most : ℕ) (read : Option ℕ) → read ≡ number_of Refused 0 most word → word ≡ decimal n → n ≤ most → most < 2 ^ 64 → read ≡ Some n
is_read word n most read is word_is low small = is ∙ ap (λ w. number_of Refused 0 most w) word_is ∙ decimal_back 0 most n (omega arith) low small

pub was_read : (word : List ℕ) (n most : ℕ) → Some n ≡ number_of Refused 0 most word → most < 2 ^ 64 → (n ≤ most) × (word ≡ decimal n)
was_read word n most is small = ((number_is_within 0 most n word (sym is)).1, decimal_alone 0 most n word small (sym is))

-- digits at each place
pub all_from : (word : List ℕ) → ((k : ℕ) → k < length word → is_digit (get_or word k 0) ≡ true) → list_all is_digit word ≡ true
all_from [] digits = refl
all_from (b ∷ word) digits = both-true (is_digit b) (list_all is_digit word) (digits 0 (omega arith)) (all_from word (λ k h. digits (suc k) (omega (arith, h))))
  where
    both-true : (a b : Bool) → a ≡ true → b ≡ true → (a && b) ≡ true
    both-true a b e f = rw e f

-- what digits spell is a number where it is small enough
pub is_spelled : (word : List ℕ) (value most : ℕ) → ((k : ℕ) → k < length word → is_digit (get_or word k 0) ≡ true) → may_be_number Refused word ≡ true
    → value ≡ value_behind 0 word → value ≤ most → Some value ≡ number_of Refused 0 most word
is_spelled word value most digits form is low =
    let high : nat_le (value_behind 0 word) most ≡ true = small (value_behind 0 word) most (subst (λ v. v ≤ most) is low) in
    rw form (rw (all_from word digits) (rw (small 0 (value_behind 0 word) (omega arith)) (rw high (ap Some is))))
  where
    small : (n most : ℕ) → n ≤ most → nat_le n most ≡ true
    small n most h = grind (arith, nat_tests)

-- one digit more
value_more : (value digit : ℕ) (digits : List ℕ) → value_behind value (digits ++ digit ∷ []) ≡ value_behind value digits * 10 + (digit - 48)
value_more value digit [] = refl
value_more value digit (d ∷ digits) = value_more (value * 10 + (d - 48)) digit digits

pub value_goes_on : (text : List ℕ) (i : ℕ) → i < length text → value_behind 0 (take i text) * 10 + (get_or text i 0 - 48) ≡ value_behind 0 (take (i + 1) text)
value_goes_on text i within = sym (ap (λ ds. value_behind 0 ds) (take_more text i 0 within) ∙ value_more 0 (get_or text i 0) (take i text))

-- the digits at the front are digits at each place
pub front_digits : (text : List ℕ) (end : ℕ) → end ≤ length text → ((k : ℕ) → k < end → is_digit (get_or text k 0) ≡ true)
    → (k : ℕ) → k < length (take end text) → is_digit (get_or (take end text) k 0) ≡ true
front_digits text end within digits k low =
    let below : k < end = subst (λ n. k < n) (length-take-le end text within) low in
    rw (get_or-take end text k 0 below) (digits k below)

-- the digits of a number are of the form, and spell it
formed : (form : Bool) (read : Option ℕ) (n : ℕ) → cond form read None ≡ Some n → form ≡ true
formed true read n e = refl
formed false read n e = absurd (none-some n e)

pub decimal_form : (n : ℕ) → n < 2 ^ 64 → may_be_number Refused (decimal n) ≡ true
decimal_form n fits = formed (may_be_number Refused (decimal n)) _ n (decimal_back 0 n n (omega arith) (omega arith) fits)

pub decimal_value : (n : ℕ) → n < 2 ^ 64 → value_behind 0 (decimal n) ≡ n
decimal_value n fits = digits_value-decimal own n fits

pub digit_range : (d : ℕ) → is_digit d ≡ true → (48 ≤ d) × (d ≤ 57)
digit_range d is = grind (arith, nat_tests)

-- What stands before an octet that is no digit, where that is the second.
pub record Alone (text rest : List ℕ) (n : ℕ) : Type 0 where
  pub digit : get_or text 0 0 ≡ 48 + n
  pub small : n < 10
  pub behind : drop 2 text ≡ rest

first_alone : (ds text rest : List ℕ) (n : ℕ) → list_all is_digit ds ≡ true → 0 < length ds → value_behind 0 ds ≡ n → text ≡ ds ++ 32 ∷ rest → get_or text 1 0 ≡ 32
    → Alone text rest n
first_alone [] text rest n all some value is second = absurd (omega (arith, some))
first_alone (d ∷ []) text rest n all some value is second =
    let range = digit_range d (first-true (is_digit d) true all) in
    record {
      digit = ap (λ xs. get_or xs 0 0) is ∙ omega (arith, value, range.0);
      small = omega (arith, value, range.1);
      behind = ap (λ xs. drop 2 xs) is;
    }
first_alone (d ∷ e ∷ ds) text rest n all some value is second =
    let digit = first-true (is_digit e) (list_all is_digit ds) (rest-true (is_digit d) (is_digit e && list_all is_digit ds) all) in
    let here : e ≡ 32 = sym (ap (λ xs. get_or xs 1 0) is) ∙ second in
    absurd (omega (arith, here, (digit_range e digit).0))

pub one_alone : (text rest : List ℕ) (n : ℕ) → n < 2 ^ 64 → text ≡ decimal n ++ 32 ∷ rest → get_or text 1 0 ≡ 32 → Alone text rest n
one_alone text rest n fits is second = first_alone (decimal n) text rest n (all_digits n fits) (decimal_nonempty n fits) (decimal_value n fits) is second

pub is_alone : (n : ℕ) → n < 10 → decimal n ≡ (48 + n) ∷ []
is_alone n small = decimal_digit n small

pub begins_with : (text : List ℕ) → 2 ≤ length text → text ≡ get_or text 0 0 ∷ get_or text 1 0 ∷ drop 2 text
begins_with [] long = absurd (omega (arith, long))
begins_with (a ∷ []) long = absurd (omega (arith, long))
begins_with (a ∷ b ∷ text) long = refl

-- what so many digits spell is less than this
abbrev pub tens : ℕ → ℕ
tens zero = 1
tens (suc i) = tens i * 10

tens_more : (i : ℕ) → tens (i + 1) ≡ tens i * 10
tens_more i = ap tens (next i)
  where
    next : (i : ℕ) → i + 1 ≡ suc i
    next i = omega arith

tens_low : (more i j : ℕ) → j ≡ more + i → tens i ≤ tens j
tens_low zero i j is = subst (λ n. tens i ≤ tens n) (sym (same i j is)) (omega arith)
  where
    same : (i j : ℕ) → j ≡ 0 + i → j ≡ i
    same i j is = omega (arith, is)
tens_low (suc more) i zero is = absurd (omega (arith, is))
tens_low (suc more) i (suc j) is = omega (arith, tens_low more i j (omega (arith, is)))

pub one_more_fits : (value digit i : ℕ) → value < tens i → i < 19 → digit ≤ 9 → value * 10 + digit < 2 ^ 64
one_more_fits value digit i low few small =
    let most : tens i ≤ 1000000000000000000 = tens_low (18 - i) i 18 (omega (arith, few)) in
    omega (arith, low, most, small)

pub one_more_low : (value digit i : ℕ) → value < tens i → digit ≤ 9 → value * 10 + digit < tens (i + 1)
one_more_low value digit i low small = omega (arith, low, small, tens_more i)

-- the place of an octet among the first so many
pub front_place : (text : List ℕ) (most i : ℕ) → most ≤ length text → i < length (take most text) → (i < most) × (get_or (take most text) i 0 ≡ get_or text i 0)
front_place text most i within low =
    let below : i < most = subst (λ n. i < n) (length-take-le most text within) low in
    (below, get_or-take most text i 0 below)
