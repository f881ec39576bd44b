-- What the private calls do, line by line and word by word. What they come to is what `secrets_of` and `line_for` say.
use Rattle.std.specs.Prelude.{ℕ, ◌==◌, ◌&&◌, if◌then◌else◌, List, Option, Some, None, Result, Ok, Err}
use Rattle.std.specs.List.{find, list_any, filter_map}
use Rattle.std.specs.Option.{option_or}
use Rattle.ppp_words.specs.PlacedWord.{PlacedWord}
use Rattle.ppp_secrets.specs.declared.fault.SecretsFault.{SecretsFault}
use Rattle.ppp_secrets.specs.declared.address_word.AddressWord.{AddressWord}
use Rattle.ppp_secrets.specs.SecretLine.{SecretLine}
use Rattle.ppp_secrets.specs.AddressWords.{address_word_of}
use Rattle.ppp_secrets.specs.LineFaults.{LineWords, is_no_address, line_fault, line_kept}
use Rattle.ppp_secrets.specs.Lookup.{is_match, stars}

-- the address words, if each is one
abbrev pub addresses_of : List PlacedWord → Option (List AddressWord)
addresses_of words = if list_any is_no_address words then None else Some (filter_map (λ word. address_word_of word.octets) words)

abbrev pub fault_or : Option SecretsFault → Option SecretLine → Result (Option SecretLine) SecretsFault
fault_or None line = Ok line
fault_or (Some fault) line = Err fault

-- what a line comes to: its first fault, else what is kept of it
unfoldable pub line_answer : ℕ → LineWords → Result (Option SecretLine) SecretsFault
line_answer number words = fault_or (line_fault (number, words)) (line_kept (number, words))

-- the first line for two names that has so many *
abbrev pub first_match : List ℕ → List ℕ → ℕ → List SecretLine → Option SecretLine
first_match client server count lines = find (λ line. is_match client server line && (stars line == count)) lines

-- three searches, one after another
unfoldable pub searched : List ℕ → List ℕ → List SecretLine → Option SecretLine
searched client server lines =
    option_or (option_or (first_match client server 0 lines) (first_match client server 1 lines)) (first_match client server 2 lines)
