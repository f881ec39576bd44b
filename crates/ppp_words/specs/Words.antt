-- The words of a text.
use Rattle.std.specs.Prelude.{◌≡◌, ℕ, List, [], ◌∷◌, ◌++◌, Option, Some, None, Result, Ok, Err}
use Rattle.std.specs.List.{flat_map}
use Rattle.ppp_words.specs.Octets.{line_after, line_behind}
use Rattle.ppp_words.specs.Parts.{Part, part_spelled, part_meant}
use Rattle.ppp_words.specs.Text.{Text, End, White, Comment, WordOf, Trailing, Unclosed, spelled, IsText}
use Rattle.ppp_words.specs.PlacedWord.{PlacedWord}
use Rattle.ppp_words.specs.Front.{Front, whole}
use Rattle.ppp_words.specs.declared.backslash.Backslash.{Backslash}
use Rattle.ppp_words.specs.declared.backslash.Backslash.TheVariants.{Dropped, Kept}

-- words before those of what follows
abbrev pub with_words : List PlacedWord → Front → Front
with_words words front = record { words = words ++ front.words; open_quote = front.open_quote }

-- these are all words
abbrev pub all_words : List PlacedWord → Front
all_words words = record { words = words; open_quote = None }

-- the word that these parts are
abbrev pub word_of : Backslash → ℕ → List Part → PlacedWord
word_of backslash line parts = record { octets = flat_map (part_meant backslash) parts; line = line }

-- What a backslash at the text's end leaves: where it stands for nothing, it is no word by itself; where it stays, it
-- is the word's last octet.
abbrev pub last_words : Backslash → ℕ → List Part → List PlacedWord
last_words Dropped line [] = []
last_words Dropped line (part ∷ parts) = word_of Dropped line (part ∷ parts) ∷ []
last_words Kept line parts = record { octets = flat_map (part_meant Kept) parts ++ 92 ∷ []; line = line } ∷ []

-- The words of a text that begins on this line: where a quote is open at the end, those in front of its word, and the line on which it begins.
abbrev pub words_from : Backslash → ℕ → Text → Front
words_from backslash line End = all_words []
words_from backslash line (White octet text) = words_from backslash (line_after line octet) text
words_from backslash line (Comment octets text) = words_from backslash line text
words_from backslash line (WordOf parts text) =
    with_words (word_of backslash line parts ∷ []) (words_from backslash (line_behind line (flat_map part_spelled parts)) text)
words_from backslash line (Trailing parts) = all_words (last_words backslash line parts)
words_from backslash line (Unclosed parts quote marks last) = record { words = []; open_quote = Some (line_behind line (flat_map part_spelled parts)) }

-- The octets are a text with these words, or with a quote that begins on this line and is open at the end.
pub record Reads (backslash : Backslash) (octets : List ℕ) (read : Result (List PlacedWord) ℕ) : Type 0 where
  pub text : Text
  pub fits : IsText text
  pub spells : octets ≡ spelled text
  pub means : whole (words_from backslash 1 text) ≡ read

-- The octets are a text with these words, and a quote that is open at the end or none.
pub record ReadsFront (backslash : Backslash) (octets : List ℕ) (front : Front) : Type 0 where
  pub text : Text
  pub fits : IsText text
  pub spells : octets ≡ spelled text
  pub means : words_from backslash 1 text ≡ front

-- these are the words of the octets
abbrev pub HasWords : Backslash → List ℕ → List PlacedWord → Type 0
HasWords backslash octets words = Reads backslash octets (Ok words)

-- a quote that begins on this line is still open at the octets' end
abbrev pub HasOpenQuote : Backslash → List ℕ → ℕ → Type 0
HasOpenQuote backslash octets line = Reads backslash octets (Err line)
