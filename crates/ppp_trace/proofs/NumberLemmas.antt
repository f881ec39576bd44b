-- The number that a word of a trace is.
use Rattle.std.proofs.Common.{◌≡◌, ◌≢◌, ℕ, ◌<◌, ◌≤◌, ◌^◌, List, Option, Some, None, MatchOption, arith, ap, sym, ◌∙◌, decimal}
use Rattle.std.proofs.lemmas.Option.{none-some}
use Rattle.ppp_base.specs.Numbers.{number_of}
use Rattle.ppp_base.specs.declared.numbers.LeadingZeros.TheVariants.{Refused}
use Rattle.ppp_base.proofs.Decimals.{decimal_back, decimal_alone, number_is_within}

pub number_cases : (word : List ℕ) (most : ℕ) (read : Option ℕ) → most < 2 ^ 64 → read ≡ number_of Refused 0 most word
    → MatchOption read ((n : ℕ) → n ≤ most → word ≢ decimal n) (λ n. (n ≤ most) × (word ≡ decimal n))
number_cases word most None fits is = λ n small e.
    none-some n (is ∙ ap (λ w. number_of Refused 0 most w) e ∙ decimal_back 0 most n (omega arith) small fits)
number_cases word most (Some n) fits is =
    ((number_is_within 0 most n word (sym is)).1, decimal_alone 0 most n word fits (sym is))

pub read_cases : (word : List ℕ) (read : Option ℕ) → read ≡ number_of Refused 0 4294967295 word
    → MatchOption read ((n : ℕ) → n < 2 ^ 32 → word ≢ decimal n) (λ n. (n < 2 ^ 32) × (word ≡ decimal n))
read_cases word None is = λ n small e.
    none-some n (is ∙ ap (λ w. number_of Refused 0 4294967295 w) e ∙ decimal_back 0 4294967295 n (omega arith) (omega arith) (omega arith))
read_cases word (Some n) is =
    let within = number_is_within 0 4294967295 n word (sym is) in
    (omega (arith, within.1), decimal_alone 0 4294967295 n word (omega arith) (sym is))
