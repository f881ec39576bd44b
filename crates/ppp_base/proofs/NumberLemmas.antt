-- Digits, one after another.
use Rattle.std.proofs.Common.{◌≡◌, ℕ, ◌+◌, ◌-◌, ◌*◌, ◌<◌, ◌≤◌, suc, Bool, true, false, cond, List, [], ◌∷◌, length, drop, get_or, Option, Some, None, refl, arith, ◌∙◌, drop-cons}
use Rattle.std.specs.Prelude.{nat_le, ◌&&◌}
use Rattle.std.specs.List.{list_all}
use Rattle.std.proofs.lemmas.Bool.Decides.{nat_tests}
use Rattle.ppp_base.specs.Numbers.{is_digit, value_behind}

-- the number that digits spell behind a value
abbrev pub number_behind : ℕ → ℕ → ℕ → List ℕ → Option ℕ
number_behind least most value digits =
    cond (list_all is_digit digits && (nat_le least (value_behind value digits) && nat_le (value_behind value digits) most)) (Some (value_behind value digits)) None

value_grows : (value : ℕ) (digits : List ℕ) → value ≤ value_behind value digits
value_grows value [] = omega arith
value_grows value (digit ∷ digits) = omega (arith, value_grows (value * 10 + (digit - 48)) digits)

a_digit : (digit : ℕ) → 48 ≤ digit → digit ≤ 57 → is_digit digit ≡ true
a_digit digit low high = grind (arith, nat_tests)

-- a digit goes on
pub digit_goes_on : (least most value digit : ℕ) (digits : List ℕ) → 48 ≤ digit → digit ≤ 57 →
    number_behind least most value (digit ∷ digits) ≡ number_behind least most (value * 10 + (digit - 48)) digits
digit_goes_on least most value digit digits low high = rw (a_digit digit low high) refl

too_great : (most value : ℕ) → most < value → nat_le value most ≡ false
too_great most value h = grind (arith, nat_tests)

-- a number that is too great stays so
number_stops : (least most value : ℕ) (digits : List ℕ) → most < value → number_behind least most value digits ≡ None
number_stops least most value digits h =
    let great : nat_le (value_behind value digits) most ≡ false = too_great most (value_behind value digits) (omega (arith, value_grows value digits)) in
    go (list_all is_digit digits) (nat_le least (value_behind value digits)) (nat_le (value_behind value digits) most) great
  where
    go : (all enough within : Bool) → within ≡ false → cond (all && (enough && within)) (Some (value_behind value digits)) None ≡ None
    go false enough within e = refl
    go true false within e = refl
    go true true within e = rw e refl

no_digit_low : (digit : ℕ) → digit < 48 → is_digit digit ≡ false
no_digit_low digit h = grind (arith, nat_tests)

no_digit_high : (digit : ℕ) → 57 < digit → is_digit digit ≡ false
no_digit_high digit h = grind (arith, nat_tests)

-- what is no digit is no number
pub low_octet_stops : (least most value digit : ℕ) (digits : List ℕ) → digit < 48 → number_behind least most value (digit ∷ digits) ≡ None
low_octet_stops least most value digit digits h = rw (no_digit_low digit h) refl

pub high_octet_stops : (least most value digit : ℕ) (digits : List ℕ) → 57 < digit → number_behind least most value (digit ∷ digits) ≡ None
high_octet_stops least most value digit digits h = rw (no_digit_high digit h) refl

-- the end of the digits
pub number_ends : (least most value : ℕ) → least ≤ value → value ≤ most → number_behind least most value [] ≡ Some value
number_ends least most value low high =
    let enough : nat_le least value ≡ true = grind (arith, nat_tests) in
    let within : nat_le value most ≡ true = grind (arith, nat_tests) in
    rw (enough, within) refl

pub number_is_small : (least most value : ℕ) → value < least → number_behind least most value [] ≡ None
number_is_small least most value low = let few : nat_le least value ≡ false = grind (arith, nat_tests) in rw few refl

-- a digit that makes the number too great
pub too_great_stops : (least most value i : ℕ) (xs : List ℕ) → i < length xs → 48 ≤ get_or xs i 0 → get_or xs i 0 ≤ 57 → most < value * 10 + (get_or xs i 0 - 48) →
    number_behind least most value (drop i xs) ≡ None
too_great_stops least most value i xs within low high great =
    rw (drop-cons xs i 0)
    (digit_goes_on least most value (get_or xs i 0) (drop (suc i) xs) low high ∙ number_stops least most (value * 10 + (get_or xs i 0 - 48)) (drop (suc i) xs) great)
