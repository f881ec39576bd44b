-- Octets as hexadecimal digits.
use Rattle.std.specs.Prelude.{◌≡◌, ℕ, ◌+◌, ◌*◌, ◌%◌, ◌<◌, ◌&&◌, Bool, List, [], ◌∷◌, length, slice_index, nat_le, nat_lt, if◌then◌else◌, Option, Some, None}
use Rattle.std.specs.List.{list_all}
use Rattle.std.specs.Char.{digit_value}

-- an even count of hexadecimal digits, of either case
pub record IsHexText (text : List ℕ) : Type 0 where
  pub even : length text % 2 ≡ 0
  pub digits : (i : ℕ) → i < length text → digit_value (slice_index text i) < 16

-- two digits stand for each octet, the high one first
pub record IsHexOf (text octets : List ℕ) : Type 0 where
  pub size : length text ≡ 2 * length octets
  pub values : (i : ℕ) → i < length octets →
      slice_index octets i ≡ 16 * digit_value (slice_index text (2 * i)) + digit_value (slice_index text (2 * i + 1))

-- the digit of a value below 16: 0 to 9, then a to f
abbrev pub lower_digit : ℕ → ℕ
lower_digit value = if nat_lt value 10 then 48 + value else 87 + value

abbrev pub is_hex_digit : ℕ → Bool
is_hex_digit octet = nat_lt (digit_value octet) 16

-- the value of hexadecimal digits behind a value
abbrev pub hex_behind : ℕ → List ℕ → ℕ
hex_behind value [] = value
hex_behind value (digit ∷ digits) = hex_behind (value * 16 + digit_value digit) digits

-- the number that 1 to 8 hexadecimal digits are
abbrev pub hex_number_of : List ℕ → Option ℕ
hex_number_of word =
    if nat_le 1 (length word) && (nat_le (length word) 8 && list_all is_hex_digit word) then Some (hex_behind 0 word) else None
