-- The words of a text without their lines.
use Rattle.std.specs.Prelude.{◌≡◌, ℕ, List, map, Option, Result, Ok, Err}
use Rattle.std.specs.Global.{Vec}
use Rattle.ppp_words.specs.PlacedWord.{PlacedWord}
use Rattle.ppp_words.specs.Front.{Front}
use Rattle.ppp_words.specs.Steps.{front_of, words_of}
use Rattle.ppp_words.specs.declared.backslash.Backslash.{Backslash}
use Rattle.ppp_words.specs.declared.fault.WordsFault.{WordsFault}
use Rattle.ppp_words.specs.declared.fault.WordsFault.TheVariants.{OpenQuote, NoMemory}

abbrev pub without_lines : Result (List PlacedWord) ℕ → Result (List (List ℕ)) ℕ
without_lines (Ok words) = Ok (map (λ (word : PlacedWord). word.octets) words)
without_lines (Err line) = Err line

-- the words of a text, each as its octets, or the line on which its open quote begins
abbrev pub split_words : Backslash → List ℕ → Result (List (List ℕ)) ℕ
split_words backslash text = without_lines (words_of backslash text)

-- the words of a text, each as its octets: where a quote is open at its end, those in front of its word, and the line on which it begins
pub record FrontWords : Type 0 where
  pub words : List (List ℕ)
  pub open_quote : Option ℕ

abbrev pub front_without_lines : Front → FrontWords
front_without_lines front = record { words = map (λ (word : PlacedWord). word.octets) front.words; open_quote = front.open_quote }

abbrev pub split_front : Backslash → List ℕ → FrontWords
split_front backslash text = front_without_lines (front_of backslash text)

-- words as lists of octets
abbrev pub octets_in : List (Vec ℕ) → List (List ℕ)
octets_in words = map (λ (word : Vec ℕ). word.items) words

-- The answer is what the text has, unless memory ran out.
abbrev pub Gives : Result (Vec (Vec ℕ)) WordsFault → Result (List (List ℕ)) ℕ → Type 0
Gives (Ok words) read = read ≡ Ok (octets_in words.items)
Gives (Err (OpenQuote line)) read = read ≡ Err line
Gives (Err NoMemory) read = Unit {0}
