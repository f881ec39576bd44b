-- Octets as pairs of hexadecimal digits, from the front on.
use Rattle.std.proofs.Common.{◌≡◌, ℕ, ◌+◌, ◌-◌, ◌*◌, ◌<◌, ◌≤◌, nat_lt, length, take, drop, get_or, Bool, true, false, List, [], ◌∷◌, ◌++◌, Option, Some, None, refl, ap, sym, arith}
use Rattle.std.proofs.Math.Seq.{take-length}
use Rattle.std.proofs.lemmas.List.{append_assoc}
use Rattle.std.specs.Char.{digit_value}
use Rattle.std.specs.Prelude.{◌&&◌, if◌then◌else◌}
use Rattle.ppp_base.specs.Hex.{hex_number_of, hex_behind, is_hex_digit}
use Rattle.ppp_option_words.specs.Values.{pairs_behind, with_octet}

-- the octets so far before those that are left
abbrev pub before : List ℕ → Option (List ℕ) → Option (List ℕ)
before octets None = None
before octets (Some more) = Some (octets ++ more)

pub before_with_octet : (octets : List ℕ) (octet : ℕ) (rest : Option (List ℕ)) → before octets (with_octet (Some octet) rest) ≡ before (octets ++ octet ∷ []) rest
before_with_octet octets octet None = refl
before_with_octet octets octet (Some more) = ap (λ (all : List ℕ). Some all) (sym (append_assoc octets (octet ∷ []) more))

tested : (a b : Bool) (value n : ℕ) → (a ≡ true → b ≡ true → value < 256) → (if a && (b && true) then Some value else None) ≡ Some n → n < 256
tested true true value n small is = let small-value : value < 256 = small refl refl in grind arith
tested true false value n small is = cc
tested false b value n small is = cc

below : (x : ℕ) → nat_lt x 16 ≡ true → x < 16
below x is = grind arith

small : (high low : ℕ) → high < 16 → low < 16 → (0 * 16 + high) * 16 + low < 256
small high low a b = omega arith

pub two_digits : (high low n : ℕ) → hex_number_of (high ∷ low ∷ []) ≡ Some n → n < 256
two_digits high low n is =
    tested (is_hex_digit high) (is_hex_digit low) (hex_behind 0 (high ∷ low ∷ [])) n
    (λ a b. small (digit_value high) (digit_value low) (below (digit_value high) a) (below (digit_value low) b)) is

pub pairs_go_on : (left octets : List ℕ) (octet : ℕ) → 2 ≤ length left → hex_number_of (get_or left 0 0 ∷ get_or left 1 0 ∷ []) ≡ Some octet
    → before octets (pairs_behind None left) ≡ before (octets ++ octet ∷ []) (pairs_behind None (take (length left - 2) (drop 2 left)))
pairs_go_on [] octets octet long is = absurd (omega arith)
pairs_go_on (high ∷ []) octets octet long is = absurd (omega arith)
pairs_go_on (high ∷ low ∷ rest) octets octet long is =
    let size : length (high ∷ low ∷ rest) - 2 ≡ length rest = omega arith in
    let all : take (length (high ∷ low ∷ rest) - 2) rest ≡ rest = rw size (take-length rest) in
    rw (all, is) (before_with_octet octets octet (pairs_behind None rest))
