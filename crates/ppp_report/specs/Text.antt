-- Where lines and numbers end.
use Rattle.std.specs.Prelude.{ℕ, ◌≡◌, ◌⊎◌, false, List, [], ◌∷◌, ⊤}
use Rattle.ppp_base.specs.Numbers.{is_digit}

-- no digit stands first
abbrev pub HasNoDigit : List ℕ → Type 0
HasNoDigit [] = ⊤
HasNoDigit (octet ∷ octets) = is_digit octet ≡ false

-- A line has ended: what is left is the text's end, or a newline and the next lines.
abbrev pub After : List ℕ → List ℕ → Type 0
After left rest = ((left ≡ []) × (rest ≡ [])) ⊎ (left ≡ 10 ∷ rest)
