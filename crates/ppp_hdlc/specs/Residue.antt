-- What the frame check sequence of 16 bits is made of (RFC 1662, 3.1 and appendix C): the remainder of a
-- division of polynomials whose coefficients are bits. A list of bits is a polynomial, the coefficient of
-- its highest power first.
use Rattle.std.specs.Prelude.{ℕ, zero, suc, ◌+◌, ◌-◌, ◌*◌, ◌/◌, ◌%◌, ◌==◌, Bool, true, false, not, if◌then◌else◌, List, [], ◌∷◌, ◌++◌, map, take, drop, replicate, fold, flat_map}

-- so many bits of a number, the lowest first
unfoldable pub bits : ℕ → ℕ → List Bool
bits zero n = []
bits (suc count) n = (n % 2 == 1) ∷ bits count (n / 2)

-- the number whose bits these are, the lowest first
unfoldable pub number : List Bool → ℕ
number [] = 0
number (bit ∷ bits) = (if bit then 1 else 0) + 2 * number bits

abbrev pub xor : Bool → Bool → Bool
xor true b = not b
xor false b = b

-- the sum of two polynomials, which is their difference too
unfoldable pub plus : List Bool → List Bool → List Bool
plus [] ys = []
plus (x ∷ xs) [] = []
plus (x ∷ xs) (y ∷ ys) = xor x y ∷ plus xs ys

-- sixteen coefficients that are 0
unfoldable pub zeros : List Bool
zeros = replicate 16 false

-- x^16 + x^12 + x^5 + 1 without its highest power
unfoldable pub divisor : List Bool
divisor = false ∷ false ∷ false ∷ true ∷ false ∷ false ∷ false ∷ false ∷ false ∷ false ∷ true ∷ false ∷ false ∷ false ∷ false ∷ true ∷ []

-- A step of the long division: the next coefficient is brought down, and the divisor taken away where it goes.
unfoldable pub bring_down : List Bool → Bool → List Bool
bring_down [] bit = []
bring_down (highest ∷ others) bit = if highest then plus (others ++ bit ∷ []) divisor else others ++ bit ∷ []

-- what a division by x^16 + x^12 + x^5 + 1 leaves
unfoldable pub remainder : List Bool → List Bool
remainder dividend = fold bring_down zeros dividend

unfoldable pub with_first_complemented : List Bool → List Bool
with_first_complemented dividend = map not (take 16 dividend) ++ drop 16 dividend

-- The bits of the octets, the lowest of each first, with sixteen zero bits added and the first sixteen bits
-- of that list complemented, are divided; the remainder is read with its highest power as the lowest bit.
unfoldable pub Residue : List ℕ → ℕ
Residue octets = number (remainder (with_first_complemented (flat_map (bits 8) octets ++ zeros)))

-- The word of these octets: what is left of their bits with sixteen zero bits added, none of them complemented.
unfoldable pub word_of : List ℕ → ℕ
word_of octets = number (remainder (flat_map (bits 8) octets ++ zeros))

-- the frame check sequence: the complement of that, in sixteen bits
abbrev pub fcs_of : List ℕ → ℕ
fcs_of octets = 65535 - Residue octets

-- the residue of octets with their frame check sequence behind them (RFC 1662, C.2)
abbrev pub good_residue : ℕ
good_residue = 0xf0b8
