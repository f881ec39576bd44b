-- Which line of a secrets file is for two names (pppd(8), "Authentication": of several lines the one with the fewest
-- wildcards; RFC 1334 and RFC 1994 leave this to the implementation).
use Rattle.std.specs.Prelude.{◌≡◌, ℕ, ◌+◌, ◌≤◌, ◌&&◌, ◌||◌, nat_le, Bool, true, false, List, [], ◌∷◌, if◌then◌else◌, Option, Some, None, filter, Contains}
use Rattle.std.specs.List.{find, list_all}
use Rattle.std.specs.Str.{bytes_eq}
use Rattle.ppp_secrets.specs.SecretLine.{SecretLine, line_numbered}

abbrev pub is_star : List ℕ → Bool
is_star word = bytes_eq word (42 ∷ [])

-- a word is for a name if it is * or that name
abbrev pub is_for : List ℕ → List ℕ → Bool
is_for word name = is_star word || bytes_eq word name

-- whether a line is for two names
abbrev pub is_match : List ℕ → List ℕ → SecretLine → Bool
is_match client server line = is_for line.client client && is_for line.server server

-- how many of a line's two names are *
abbrev pub stars : SecretLine → ℕ
stars line = (if is_star line.client then 1 else 0) + (if is_star line.server then 1 else 0)

-- A line for two names: it is one of the lines and matches, no line that matches has fewer *, and of those with as few
-- it has the least number.
pub record IsLineFor (lines : List SecretLine) (client server : List ℕ) (line : SecretLine) : Type 0 where
  pub kept : Contains lines line
  pub matches : is_match client server line ≡ true
  pub fewest : (other : SecretLine) → Contains lines other → is_match client server other ≡ true → stars line ≤ stars other
  pub least : (other : SecretLine) → Contains lines other → is_match client server other ≡ true → stars other ≡ stars line → line.number ≤ other.number

-- The number is that of the line for two names. There is none exactly where no line matches.
abbrev pub Lookup : List SecretLine → List ℕ → List ℕ → Option ℕ → Type 0
Lookup lines client server None = (line : SecretLine) → Contains lines line → is_match client server line ≡ false
Lookup lines client server (Some number) = (line : SecretLine) × (line_numbered number lines ≡ Some line) × IsLineFor lines client server line

-- whether no line of these has fewer *
abbrev pub has_fewest : List SecretLine → SecretLine → Bool
has_fewest lines line = list_all (λ other. nat_le (stars line) (stars other)) lines

abbrev pub first_of_fewest : List SecretLine → Option SecretLine
first_of_fewest lines = find (has_fewest lines) lines

-- The line for two names as a value: of those that match the first of those with the fewest *.
unfoldable pub line_for : List SecretLine → List ℕ → List ℕ → Option SecretLine
line_for lines client server = first_of_fewest (filter (is_match client server) lines)
