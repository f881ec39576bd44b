-- Hexadecimal digits, one after another.
use Rattle.std.proofs.Common.{◌≡◌, ℕ, ◌+◌, ◌*◌, ◌<◌, ◌≤◌, ◌^◌, suc, true, false, cond, List, ◌∷◌, Option, Some, None, refl, arith}
use Rattle.std.specs.List.{list_all}
use Rattle.std.specs.Char.{digit_value}
use Rattle.std.proofs.lemmas.Bool.Decides.{nat_tests}
use Rattle.std.proofs.Math.Nat.{pow-le-pow_right, pow-suc}
use Rattle.ppp_base.specs.Hex.{is_hex_digit, hex_behind}

-- what digits are behind a value
abbrev pub hex_from : ℕ → List ℕ → Option ℕ
hex_from value digits = cond (list_all is_hex_digit digits) (Some (hex_behind value digits)) None

pub hex_goes_on : (value digit : ℕ) (digits : List ℕ) → digit_value digit < 16 → hex_from value (digit ∷ digits) ≡ hex_from (value * 16 + digit_value digit) digits
hex_goes_on value digit digits h = let is : is_hex_digit digit ≡ true = grind (arith, nat_tests) in rw is refl

pub hex_stops : (value digit : ℕ) (digits : List ℕ) → (digit_value digit < 16 → ⊥) → hex_from value (digit ∷ digits) ≡ None
hex_stops value digit digits h = let is : is_hex_digit digit ≡ false = grind (arith, nat_tests) in rw is refl

-- so many digits stay below that power of 16
pub below_powers : (value digit i : ℕ) → value < 16 ^ i → digit < 16 → value * 16 + digit < 16 ^ suc i
below_powers value digit i small low = rw (pow-suc 16 i) (omega arith)

pub eight_digits : (value i : ℕ) → value < 16 ^ i → i ≤ 8 → value < 2 ^ 32
eight_digits value i small few = omega (arith, small, pow-le-pow_right {n = 16} (omega arith) {i = i} {j = 8} few)
