-- The register by which RFC 1662 computes the frame check sequence (appendix C).
use Rattle.std.specs.Prelude.{ℕ, Bool, false, if◌then◌else◌, List, [], ◌∷◌, ◌++◌, fold, flat_map}
use Rattle.ppp_hdlc.specs.Residue.{bits, number, plus, divisor, xor}

-- the register's coefficients behind one more bit of the octets
unfoldable pub taken : List Bool → Bool → List Bool
taken [] bit = []
taken (highest ∷ others) bit = if xor highest bit then plus (others ++ false ∷ []) divisor else others ++ false ∷ []

-- the register behind these octets
unfoldable pub register_after : ℕ → List ℕ → ℕ
register_after register octets = number (fold taken (bits 16 register) (flat_map (bits 8) octets))
