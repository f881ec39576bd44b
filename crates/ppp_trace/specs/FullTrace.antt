-- A full trace as it is spelled: the line `full SEED`, three sections, and steps. A section is a line with its name and
-- how many lines follow, and these.
use Rattle.std.specs.Prelude.{◌≡◌, ℕ, ◌<◌, ◌≤◌, true, Option, None, Some, List, [], ◌∷◌, ◌++◌, length, slice_get}
use Rattle.std.specs.List.{flat_map, list_all}
use Rattle.ppp_base.specs.Numbers.{is_digit, may_be_number, value_behind}
use Rattle.ppp_base.specs.declared.numbers.LeadingZeros.TheVariants.{Refused}
use Rattle.ppp_trace.specs.declared.TheConstants.{MOST_LINE}

abbrev pub Line : Type 0
Line = List ℕ

-- These digits spell this number, without leading zeros.
pub record IsCount (digits : List ℕ) (n : ℕ) : Type 0 where
  pub form : may_be_number Refused digits ≡ true
  pub all : list_all is_digit digits ≡ true
  pub value : value_behind 0 digits ≡ n

-- The line says that so many lines follow.
pub record SaysCount (name line : Line) (n : ℕ) : Type 0 where
  pub digits : List ℕ
  pub count : IsCount digits n
  pub text : line ≡ name ++ 32 ∷ digits

-- each line with its newline
abbrev pub text_of : List Line → List ℕ
text_of lines = flat_map (λ line. line ++ 10 ∷ []) lines

-- a line that is too long
pub record IsLong (lines : List Line) (place : ℕ) : Type 0 where
  pub line : Line
  pub stands : slice_get lines place ≡ Some line
  pub long : MOST_LINE < length line

-- the first one, if there is one
abbrev pub FirstLong : List Line → Option ℕ → Type 0
FirstLong lines None = (place : ℕ) → IsLong lines place → ⊥
FirstLong lines (Some place) = IsLong lines place × ((other : ℕ) → IsLong lines other → place ≤ other)

-- The lines begin with a section of this name, whose own lines these are; others follow.
pub record IsSection (name : Line) (lines own others : List Line) : Type 0 where
  pub line : Line
  pub says : SaysCount name line (length own)
  pub text : lines ≡ line ∷ (own ++ others)

-- No line of such a section is first.
abbrev pub NoSection : Line → List Line → Type 0
NoSection name lines = (line : Line) (others : List Line) (n : ℕ) → SaysCount name line n → lines ≡ line ∷ others → ⊥
