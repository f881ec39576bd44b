-- What a text has up to its end, or up to a quote that is open there.
use Rattle.std.specs.Prelude.{ℕ, List, Option, Some, None, Result, Ok, Err}
use Rattle.ppp_words.specs.PlacedWord.{PlacedWord}

-- The words in front of the word with an open quote, and the line on which the quote begins; all words where no quote is open.
pub record Front : Type 0 where
  pub words : List PlacedWord
  pub open_quote : Option ℕ

-- A text with an open quote has no words.
abbrev pub unless_open : List PlacedWord → Option ℕ → Result (List PlacedWord) ℕ
unless_open words None = Ok words
unless_open words (Some line) = Err line

abbrev pub whole : Front → Result (List PlacedWord) ℕ
whole front = unless_open front.words front.open_quote
