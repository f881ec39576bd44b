-- Numbers in words: decimal digits alone, and addresses with dots (pppd(8), chat(8)).
use Rattle.std.specs.Prelude.{ℕ, ◌+◌, ◌-◌, ◌*◌, ◌==◌, ◌&&◌, Bool, true, false, not, List, [], ◌∷◌, length, map, if◌then◌else◌, nat_le, Option, Some, None}
use Rattle.std.specs.List.{list_all, slice_split}
use Rattle.std.specs.Option.{option_map}
use Rattle.ppp_base.specs.declared.numbers.LeadingZeros.{LeadingZeros}
use Rattle.ppp_base.specs.declared.numbers.LeadingZeros.TheVariants.{Lawful, Refused}

abbrev pub is_digit : ℕ → Bool
is_digit octet = nat_le 48 octet && nat_le octet 57

-- the value of digits behind a value
abbrev pub value_behind : ℕ → List ℕ → ℕ
value_behind value [] = value
value_behind value (digit ∷ digits) = value_behind (value * 10 + (digit - 48)) digits

-- A word has digits. Where zeros may lead it has at most 10; else it begins with 0 only where it is `0`.
abbrev pub may_be_number : LeadingZeros → List ℕ → Bool
may_be_number zeros [] = false
may_be_number Lawful (first ∷ others) = nat_le (length others) 9
may_be_number Refused (first ∷ []) = true
may_be_number Refused (first ∷ second ∷ others) = not (first == 48)

-- the number that digits spell, from least to most
abbrev pub number_within : ℕ → ℕ → List ℕ → Option ℕ
number_within least most digits =
    if list_all is_digit digits && (nat_le least (value_behind 0 digits) && nat_le (value_behind 0 digits) most) then Some (value_behind 0 digits) else None

-- the number from least to most that a word is, if it is one
abbrev pub number_of : LeadingZeros → ℕ → ℕ → List ℕ → Option ℕ
number_of zeros least most word = if may_be_number zeros word then number_within least most word else None

-- the values, where each is there
abbrev pub all_some : List (Option ℕ) → Option (List ℕ)
all_some [] = Some []
all_some (None ∷ values) = None
all_some (Some value ∷ values) = option_map (λ others. value ∷ others) (all_some values)

-- the numbers from 0 to 255 that four parts are
abbrev pub four_octets : List (List ℕ) → Option (List ℕ)
four_octets (a ∷ b ∷ c ∷ d ∷ []) = all_some (map (number_of Lawful 0 255) (a ∷ b ∷ c ∷ d ∷ []))
four_octets parts = None

-- a.b.c.d, as its four octets
unfoldable pub address_of : List ℕ → Option (List ℕ)
address_of word = four_octets (slice_split (λ octet. octet == 46) word)
