-- What it is to be a remainder of the division in Residue.
use Rattle.std.specs.Prelude.{◌≡◌, ℕ, Bool, true, false, List, [], ◌∷◌, ◌++◌, length, replicate}
use Rattle.ppp_hdlc.specs.Residue.{plus, zeros, divisor}

-- a coefficient times x^16 + x^12 + x^5 + 1, with so many powers below it
unfoldable pub scaled : Bool → ℕ → List Bool
scaled true powers = (true ∷ divisor) ++ replicate powers false
scaled false powers = (false ∷ zeros) ++ replicate powers false

-- a polynomial times x^16 + x^12 + x^5 + 1
unfoldable pub times_divisor : List Bool → List Bool
times_divisor [] = zeros
times_divisor (highest ∷ others) = plus (scaled highest (length others)) (false ∷ times_divisor others)

-- The dividend is the quotient times the divisor, and a rest of a lower power. The quotient has as many
-- coefficients as the dividend, so that both sides of the sum are as long and none of it is cut off.
pub record IsDivision (dividend quotient rest : List Bool) : Type 0 where
  pub as_long : length quotient ≡ length dividend
  pub is_lower : length rest ≡ 16
  pub is_sum : zeros ++ dividend ≡ plus (times_divisor quotient) (replicate (length dividend) false ++ rest)
