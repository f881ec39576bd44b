-- What is taken of one line: a front of what it gave, in order, each octet once.
use Rattle.std.specs.Prelude.{ℕ, ◌≡◌, ◌+◌, ◌==◌, if◌then◌else◌, List, [], ◌∷◌, ◌++◌, length, ⊤}
use Rattle.ppp_outside.specs.declared.line_in.LineAnswer.{LineAnswer}
use Rattle.ppp_outside.specs.declared.line_in.LineAnswer.TheVariants as told
use Rattle.ppp_link.specs.ErrandValues.{PieceValue}

-- the octets that a line's answers gave, the oldest first
abbrev pub given_by : List LineAnswer → List ℕ
given_by [] = []
given_by (told.Got octets ∷ answers) = octets ++ given_by answers
given_by (told.Quiet ∷ answers) = given_by answers
given_by (told.End ∷ answers) = given_by answers
given_by (told.Failed ∷ answers) = given_by answers

-- The octets of a piece stand at its offset among those that the line gave.
pub record IsOfLine (all : List ℕ) (piece : PieceValue) : Type 0 where
  pub before : List ℕ
  pub behind : List ℕ
  pub whole : all ≡ before ++ (piece.octets ++ behind)
  pub place : length before ≡ piece.offset

abbrev pub AreOfLine : List ℕ → List PieceValue → Type 0
AreOfLine all [] = ⊤
AreOfLine all (piece ∷ pieces) = IsOfLine all piece × AreOfLine all pieces

-- What is taken of pieces of which each is taken at its place alone: behind so many octets.
abbrev pub taken_of : ℕ → List PieceValue → List ℕ
taken_of place [] = []
taken_of place (piece ∷ pieces) =
    if piece.offset == place then piece.octets ++ taken_of (place + length piece.octets) pieces else taken_of place pieces
