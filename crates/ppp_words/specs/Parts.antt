-- What a word is made of.
use Rattle.std.specs.Prelude.{◌≡◌, ℕ, ◌==◌, true, false, List, [], ◌∷◌, ◌++◌}
use Rattle.std.specs.List.{flat_map, AllByRecursion}
use Rattle.ppp_words.specs.Octets.{is_plain, is_quote}
use Rattle.ppp_words.specs.declared.backslash.Backslash.{Backslash}
use Rattle.ppp_words.specs.declared.backslash.Backslash.TheVariants.{Dropped, Kept}

-- an octet that stands for itself, or one behind a backslash
pub data Mark : Type 0 where
  Bare : ℕ → Mark
  Escaped : ℕ → Mark

-- a mark outside quotes, or the marks between two quotes
pub data Part : Type 0 where
  Loose : Mark → Part
  Quoted : ℕ → List Mark → Part

-- how a mark is spelled
abbrev pub mark_spelled : Mark → List ℕ
mark_spelled (Bare octet) = octet ∷ []
mark_spelled (Escaped octet) = 92 ∷ octet ∷ []

-- how a part is spelled
abbrev pub part_spelled : Part → List ℕ
part_spelled (Loose mark) = mark_spelled mark
part_spelled (Quoted quote marks) = quote ∷ flat_map mark_spelled marks ++ quote ∷ []

-- What a backslash stands for.
abbrev pub backslash_meant : Backslash → List ℕ
backslash_meant Dropped = []
backslash_meant Kept = 92 ∷ []

-- what a mark stands for
abbrev pub mark_meant : Backslash → Mark → List ℕ
mark_meant backslash (Bare octet) = octet ∷ []
mark_meant backslash (Escaped octet) = backslash_meant backslash ++ octet ∷ []

-- What a part stands for: quotes stand for nothing themselves.
abbrev pub part_meant : Backslash → Part → List ℕ
part_meant backslash (Loose mark) = mark_meant backslash mark
part_meant backslash (Quoted quote marks) = flat_map (mark_meant backslash) marks

-- Between quotes each octet stands for itself, but for the quote that began them and a backslash.
abbrev pub StandsWithin : ℕ → Mark → Type 0
StandsWithin quote (Bare octet) = ((octet == quote) ≡ false) × ((octet == 92) ≡ false)
StandsWithin quote (Escaped octet) = Unit {0}

-- a part of a word
abbrev pub IsPart : Part → Type 0
IsPart (Loose (Bare octet)) = is_plain octet ≡ true
IsPart (Loose (Escaped octet)) = Unit {0}
IsPart (Quoted quote marks) = (is_quote quote ≡ true) × AllByRecursion (StandsWithin quote) marks

-- Where a word begins, a # would begin a comment.
abbrev pub BeginsNoComment : List Part → Type 0
BeginsNoComment [] = Unit {0}
BeginsNoComment (Loose (Bare octet) ∷ parts) = (octet == 35) ≡ false
BeginsNoComment (Loose (Escaped octet) ∷ parts) = Unit {0}
BeginsNoComment (Quoted quote marks ∷ parts) = Unit {0}

-- the parts with which a word may begin, or none
pub record AreParts (parts : List Part) : Type 0 where
  pub each : AllByRecursion IsPart parts
  pub begin : BeginsNoComment parts
