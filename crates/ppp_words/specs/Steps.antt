-- Reading one octet after another, as the private calls do it. What they read is what `Reads` says.
use Rattle.std.specs.Prelude.{ℕ, ◌==◌, ◌&&◌, if◌then◌else◌, is_none, List, [], ◌∷◌, ◌++◌, Option, Some, None, Result, Ok, Err}
use Rattle.ppp_words.specs.Octets.{is_white, is_quote, line_after}
use Rattle.ppp_words.specs.PlacedWord.{PlacedWord}
use Rattle.ppp_words.specs.Front.{Front, whole}
use Rattle.ppp_words.specs.declared.backslash.Backslash.{Backslash}
use Rattle.ppp_words.specs.declared.backslash.Backslash.TheVariants.{Dropped, Kept}
use Rattle.ppp_words.specs.declared.place.Place.{Place}
use Rattle.ppp_words.specs.declared.place.Place.TheVariants.{Outside, Escape, Comment, Quote, QuoteEscape}

-- how far reading has come
pub record State : Type 0 where
  pub place : Place
  pub line : ℕ
  pub word : Option PlacedWord
  pub words : List PlacedWord

-- the word that has begun, or one that begins here
abbrev pub begun : Option PlacedWord → ℕ → PlacedWord
begun None line = record { octets = []; line = line }
begun (Some word) line = word

-- a word with more octets at its end
abbrev pub longer : PlacedWord → List ℕ → PlacedWord
longer word more = record { octets = word.octets ++ more; line = word.line }

-- the word, which may begin here, with more octets
abbrev pub pushed : Option PlacedWord → ℕ → List ℕ → Option PlacedWord
pushed word line more = Some (longer (begun word line) more)

-- the word behind a backslash: it begins here if the backslash stays
abbrev pub behind : Backslash → Option PlacedWord → ℕ → Option PlacedWord
behind Dropped word line = word
behind Kept word line = pushed word line (92 ∷ [])

-- the words, the last of which may have begun
abbrev pub ended : List PlacedWord → Option PlacedWord → List PlacedWord
ended words None = words
ended words (Some word) = words ++ word ∷ []

-- outside quotes and comments
abbrev pub outside : Backslash → State → ℕ → State
outside backslash s octet =
    if is_white octet then record s { word = None; words = ended s.words s.word }
    else if is_quote octet then record s { place = Quote octet s.line; word = Some (begun s.word s.line) }
    else if octet == 92 then record s { place = Escape; word = behind backslash s.word s.line }
    else if (octet == 35) && is_none s.word then record s { place = Comment }
    else record s { word = pushed s.word s.line (octet ∷ []) }

-- behind a quote
abbrev pub in_quote : Backslash → ℕ → ℕ → State → ℕ → State
in_quote backslash quote begin s octet =
    if octet == quote then record s { place = Outside }
    else if octet == 92 then record s { place = QuoteEscape quote begin; word = behind backslash s.word s.line }
    else record s { word = pushed s.word s.line (octet ∷ []) }

-- what an octet does in its place
abbrev pub placed : Backslash → Place → State → ℕ → State
placed backslash Outside s octet = outside backslash s octet
placed backslash Escape s octet = record s { place = Outside; word = pushed s.word s.line (octet ∷ []) }
placed backslash Comment s octet = if octet == 10 then record s { place = Outside } else s
placed backslash (Quote quote begin) s octet = in_quote backslash quote begin s octet
placed backslash (QuoteEscape quote begin) s octet = record s { place = Quote quote begin; word = pushed s.word s.line (octet ∷ []) }

-- what an octet does, and the line after it
abbrev pub step : Backslash → State → ℕ → State
step backslash s octet = record (placed backslash s.place s octet) { line = line_after s.line octet }

-- what has been read, at the end
abbrev pub at_end : Place → State → Front
at_end Outside s = record { words = ended s.words s.word; open_quote = None }
at_end Escape s = record { words = ended s.words s.word; open_quote = None }
at_end Comment s = record { words = ended s.words s.word; open_quote = None }
at_end (Quote quote begin) s = record { words = s.words; open_quote = Some begin }
at_end (QuoteEscape quote begin) s = record { words = s.words; open_quote = Some begin }

abbrev pub run : Backslash → State → List ℕ → Front
run backslash s [] = at_end s.place s
run backslash s (octet ∷ octets) = run backslash (step backslash s octet) octets

-- before the first octet
abbrev pub start : State
start = record { place = Outside; line = 1; word = None; words = [] }

-- The one reading of the octets: what `Reads` has of them.
unfoldable pub words_of : Backslash → List ℕ → Result (List PlacedWord) ℕ
words_of backslash octets = whole (run backslash start octets)

-- The one reading of the octets up to an open quote: what `ReadsFront` has of them.
unfoldable pub front_of : Backslash → List ℕ → Front
front_of backslash octets = run backslash start octets
