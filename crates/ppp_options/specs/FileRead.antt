-- The words of a file that a word names.
use Rattle.std.specs.Prelude.{◌≡◌, ℕ, List, Option, Some, None, Result, Ok, Err}
use Rattle.ppp_chat_words.specs.Split.{FrontWords, octets_in}
use Rattle.ppp_chat_words.specs.FileWords.{words_at}
use Rattle.ppp_chat_words.specs.declared.file.FileWords.{FileWords}
use Rattle.ppp_chat_words.specs.declared.file.FileWords.TheVariants as read
use Rattle.ppp_outside.specs.Files.{NamedFile}
use Rattle.ppp_words.specs.declared.backslash.Backslash.{Backslash}
use Rattle.ppp_option_words.specs.Results.{ok_then}
use Rattle.ppp_option_words.specs.declared.fault.OptionsFault.{OptionsFault}
use Rattle.ppp_option_words.specs.declared.fault.OptionsFault.TheVariants.{BadQuote, FileFault, NoFile, NoMemory}
use Rattle.ppp_options.specs.declared.file_words.FileText.{FileText}
use Rattle.ppp_options.specs.declared.file_words.OpenQuote.{OpenQuote}

-- The words of a file, and the quote that is open at its end, if there is one: the words are then those in front of its word.
pub record FileRead : Type 0 where
  pub words : List (List ℕ)
  pub open_quote : Option OpenQuote

abbrev pub quote_of : List ℕ → Option ℕ → Option OpenQuote
quote_of name None = None
quote_of name (Some line) = Some (record { name = name; line = line })

-- there is no such file, or these are its words
abbrev pub read_or_fault : List ℕ → Option FrontWords → Result FileRead OptionsFault
read_or_fault name None = Err (NoFile name)
read_or_fault name (Some front) = Ok (record { words = front.words; open_quote = quote_of name front.open_quote })

-- the file of this name
abbrev pub file_read : Backslash → List NamedFile → List ℕ → Result FileRead OptionsFault
file_read backslash files name = read_or_fault name (words_at backslash files name)

-- unless a quote is open
abbrev pub unless_open : {X : Type 0} → Option OpenQuote → X → Result X OptionsFault
unless_open None x = Ok x
unless_open (Some quote) x = Err (BadQuote quote.name quote.line)

-- the words of the file of this name, in which no quote is open
abbrev pub file_words : Backslash → List NamedFile → List ℕ → Result (List (List ℕ)) OptionsFault
file_words backslash files name = ok_then (file_read backslash files name) (λ (file : FileRead). unless_open file.open_quote file.words)

-- what was read, as lists of octets
abbrev pub text_of : FileText → FileRead
text_of text = record { words = octets_in text.words.items; open_quote = text.open_quote }

-- the answer behind what reading the file has answered
abbrev pub FollowsRead : List ℕ → FileWords → Result FileText OptionsFault → Type 0
FollowsRead name (read.Words words) answer = answer ≡ Ok (record { words = words; open_quote = None })
FollowsRead name (read.OpenQuote words line) answer = answer ≡ Ok (record { words = words; open_quote = quote_of name (Some line) })
FollowsRead name read.NoFile answer = answer ≡ Err (NoFile name)
FollowsRead name read.Failed answer = answer ≡ Err (FileFault name)
FollowsRead name read.NoMemory answer = answer ≡ Err NoMemory
