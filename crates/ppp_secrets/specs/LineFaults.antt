-- What is wrong with a line of a secrets file, and what a line is with which nothing is (pppd(8), "Authentication"; the
-- faults and their order are own).
use Rattle.std.specs.Prelude.{ℕ, ◌==◌, nat_lt, Bool, true, false, List, [], ◌∷◌, length, drop, Option, Some, None, is_none, Result, Ok, Err}
use Rattle.std.specs.List.{find, list_any, filter_map}
use Rattle.ppp_words.specs.PlacedWord.{PlacedWord}
use Rattle.ppp_secrets.specs.declared.fault.SecretsFault.{SecretsFault}
use Rattle.ppp_secrets.specs.declared.fault.SecretsFault.TheVariants.{BadQuote, FewWords, TooLong, FileSecret, BadAddress, NoMemory}
use Rattle.ppp_secrets.specs.SecretLine.{SecretLine}
use Rattle.ppp_secrets.specs.AddressWords.{address_word_of}

-- the words of a line, or an open quote
abbrev pub LineWords : Type 0
LineWords = Result (List PlacedWord) ℕ

-- one word or two
abbrev pub has_few : List PlacedWord → Bool
has_few [] = false
has_few (client ∷ []) = true
has_few (client ∷ server ∷ []) = true
has_few (client ∷ server ∷ secret ∷ words) = false

-- more octets than a name has: more than 255
abbrev pub is_too_long : PlacedWord → Bool
is_too_long word = nat_lt 255 (length word.octets)

abbrev pub begins_with_at : List ℕ → Bool
begins_with_at [] = false
begins_with_at (octet ∷ octets) = octet == 64

-- whether the third word, the secret, begins with @ and so names a file
abbrev pub names_file : List PlacedWord → Bool
names_file [] = false
names_file (client ∷ []) = false
names_file (client ∷ server ∷ []) = false
names_file (client ∷ server ∷ secret ∷ words) = begins_with_at secret.octets

abbrev pub is_no_address : PlacedWord → Bool
is_no_address word = is_none (address_word_of word.octets)

-- whether this is wrong with a line: a quote is open; it has a word or two; a word is too long; its secret names a file;
-- a word behind the first three is no address word
abbrev pub applies : LineWords → SecretsFault → Bool
applies (Err begin) (BadQuote number) = true
applies (Err begin) (FewWords number) = false
applies (Err begin) (TooLong number) = false
applies (Err begin) (FileSecret number) = false
applies (Err begin) (BadAddress number) = false
applies (Err begin) NoMemory = false
applies (Ok words) (BadQuote number) = false
applies (Ok words) (FewWords number) = has_few words
applies (Ok words) (TooLong number) = list_any is_too_long words
applies (Ok words) (FileSecret number) = names_file words
applies (Ok words) (BadAddress number) = list_any is_no_address (drop 3 words)
applies (Ok words) NoMemory = false

-- the faults of the line with this number, in the order in which they are told
abbrev pub faults_at : ℕ → List SecretsFault
faults_at number = BadQuote number ∷ FewWords number ∷ TooLong number ∷ FileSecret number ∷ BadAddress number ∷ []

-- the first thing that is wrong with a line
abbrev pub line_fault : ℕ × LineWords → Option SecretsFault
line_fault line = find (applies line.1) (faults_at line.0)

-- the line with these words, if they are three or more
abbrev pub words_kept : ℕ → List PlacedWord → Option SecretLine
words_kept number [] = None
words_kept number (client ∷ []) = None
words_kept number (client ∷ server ∷ []) = None
words_kept number (client ∷ server ∷ secret ∷ words) = Some (record {
  number = number;
  client = client.octets;
  server = server.octets;
  secret = secret.octets;
  addresses = filter_map (λ word. address_word_of word.octets) words;
})

-- what is kept of a line
abbrev pub line_kept : ℕ × LineWords → Option SecretLine
line_kept (number, Err begin) = None
line_kept (number, Ok words) = words_kept number words
