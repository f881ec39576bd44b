-- How a text is made up of words and of what stands between them.
use Rattle.std.specs.Prelude.{◌≡◌, ◌≢◌, ℕ, ◌==◌, Bool, true, false, List, [], ◌∷◌, ◌++◌}
use Rattle.std.specs.List.{flat_map, AllByRecursion}
use Rattle.ppp_words.specs.Octets.{is_white, is_quote}
use Rattle.ppp_words.specs.Parts.{Mark, Part, mark_spelled, part_spelled, StandsWithin, AreParts}

-- A text, from left to right.
pub data Text : Type 0 where
  -- nothing is left
  End : Text
  -- white space
  White : ℕ → Text → Text
  -- a comment: what stands behind its #
  Comment : List ℕ → Text → Text
  -- a word
  WordOf : List Part → Text → Text
  -- The last word, or none, and then a backslash with nothing behind it.
  Trailing : List Part → Text
  -- The last word's first parts, or none, and then a quote that nothing closes: the quote, the marks behind it, and
  -- whether a backslash with nothing behind it stands last.
  Unclosed : List Part → ℕ → List Mark → Bool → Text

-- a backslash at the very end, or none
abbrev pub last_backslash : Bool → List ℕ
last_backslash false = []
last_backslash true = 92 ∷ []

-- the octets of a text
abbrev pub spelled : Text → List ℕ
spelled End = []
spelled (White octet text) = octet ∷ spelled text
spelled (Comment octets text) = 35 ∷ octets ++ spelled text
spelled (WordOf parts text) = flat_map part_spelled parts ++ spelled text
spelled (Trailing parts) = flat_map part_spelled parts ++ 92 ∷ []
spelled (Unclosed parts quote marks last) = flat_map part_spelled parts ++ quote ∷ flat_map mark_spelled marks ++ last_backslash last

-- A comment goes on to the line's end.
abbrev pub EndsLine : Text → Type 0
EndsLine End = Unit {0}
EndsLine (White octet text) = (octet == 10) ≡ true
EndsLine (Comment octets text) = ⊥
EndsLine (WordOf parts text) = ⊥
EndsLine (Trailing parts) = ⊥
EndsLine (Unclosed parts quote marks last) = ⊥

-- A word goes on to white space or to the end.
abbrev pub EndsWord : Text → Type 0
EndsWord End = Unit {0}
EndsWord (White octet text) = Unit {0}
EndsWord (Comment octets text) = ⊥
EndsWord (WordOf parts text) = ⊥
EndsWord (Trailing parts) = ⊥
EndsWord (Unclosed parts quote marks last) = ⊥

-- what may stand where, and behind what
abbrev pub IsText : Text → Type 0
IsText End = Unit {0}
IsText (White octet text) = (is_white octet ≡ true) × IsText text
IsText (Comment octets text) = AllByRecursion (λ octet. (octet == 10) ≡ false) octets × EndsLine text × IsText text
IsText (WordOf parts text) = (parts ≢ []) × AreParts parts × EndsWord text × IsText text
IsText (Trailing parts) = AreParts parts
IsText (Unclosed parts quote marks last) = AreParts parts × (is_quote quote ≡ true) × AllByRecursion (StandsWithin quote) marks
