-- What a secrets file holds (pppd(8), "Authentication"): each line by itself is words.
use Rattle.std.specs.Prelude.{◌≡◌, ℕ, ◌==◌, List, [], ◌∷◌, map, Result, Ok, Err}
use Rattle.std.specs.List.{slice_split, filter_map, enumerate_from, AllZip}
use Rattle.ppp_words.specs.Words.{Reads}
use Rattle.ppp_words.specs.Steps.{words_of}
use Rattle.ppp_words.specs.declared.backslash.Backslash.TheVariants.{Dropped}
use Rattle.ppp_secrets.specs.declared.fault.SecretsFault.{SecretsFault}
use Rattle.ppp_secrets.specs.SecretLine.{SecretLine}
use Rattle.ppp_secrets.specs.LineFaults.{LineWords, line_fault, line_kept}

-- The lines of a text are the pieces between its newlines.
abbrev pub lines_of : List ℕ → List (List ℕ)
lines_of text = slice_split (λ octet. octet == 10) text

-- the first fault, if there is one, else the lines
abbrev pub first_or : List SecretsFault → List SecretLine → Result (List SecretLine) SecretsFault
first_or [] lines = Ok lines
first_or (fault ∷ faults) lines = Err fault

-- What numbered lines hold: the first fault of the first line that has one, else the lines that have words.
abbrev pub held : List (ℕ × LineWords) → Result (List SecretLine) SecretsFault
held lines = first_or (filter_map line_fault lines) (filter_map line_kept lines)

-- A text holds these lines or has this fault first. Its lines are counted from 1, and each is read as words by itself.
pub record Holds (text : List ℕ) (answer : Result (List SecretLine) SecretsFault) : Type 0 where
  pub readings : List LineWords
  pub reads : AllZip (Reads Dropped) (lines_of text) readings
  pub holds : held (enumerate_from 1 readings) ≡ answer

-- The same as a value, with the one reading of each line.
unfoldable pub secrets_of : List ℕ → Result (List SecretLine) SecretsFault
secrets_of text = held (enumerate_from 1 (map (words_of Dropped) (lines_of text)))
