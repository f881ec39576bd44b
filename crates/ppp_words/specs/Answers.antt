-- What a call answers.
use Rattle.std.specs.Prelude.{◌≡◌, ℕ, List, Result, Ok, Err}
use Rattle.std.specs.Global.{Vec}
use Rattle.ppp_words.specs.Front.{Front}
use Rattle.ppp_words.specs.PlacedWord.{PlacedWord}
use Rattle.ppp_words.specs.declared.front.WordsFront.{WordsFront}
use Rattle.ppp_words.specs.declared.word.Word.{Word}
use Rattle.ppp_words.specs.declared.fault.WordsFault.{WordsFault}
use Rattle.ppp_words.specs.declared.fault.WordsFault.TheVariants.{OpenQuote, NoMemory}

-- The answer is what reading gives, unless memory ran out.
abbrev pub Gives : Result (Vec Word) WordsFault → Result (List PlacedWord) ℕ → Type 0
Gives (Ok words) read = read ≡ Ok words.items
Gives (Err (OpenQuote line)) read = read ≡ Err line
Gives (Err NoMemory) read = Unit {0}

-- The answer is one that reading may give, unless memory ran out.
abbrev pub GivesSome : Result (Vec Word) WordsFault → (Result (List PlacedWord) ℕ → Type 0) → Type 0
GivesSome (Ok words) IsRead = IsRead (Ok words.items)
GivesSome (Err (OpenQuote line)) IsRead = IsRead (Err line)
GivesSome (Err NoMemory) IsRead = Unit {0}

-- what was read, as its list and line
abbrev pub front_in : WordsFront → Front
front_in front = record { words = front.words.items; open_quote = front.open_quote }
