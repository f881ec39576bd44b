-- What a `connect` value says (pppd(8), "Options"; chat(8)).
use Rattle.std.specs.Prelude.{ℕ, ◌-◌, ◌||◌, Bool, false, if◌then◌else◌, List, [], ◌∷◌, length, drop, codes, slice_get, Option, Some, None, unwrap_or, Result, Ok, Err}
use Rattle.std.specs.Str.{bytes_eq}
use Rattle.ppp_chat.specs.Script.{ChatScript, Item as ScriptItem}
use Rattle.ppp_chat.specs.Words.{script_of, word_of}
use Rattle.ppp_chat.specs.declared.fault.ScriptFault.{ScriptFault}
use Rattle.ppp_chat_words.specs.Split.{split_words}
use Rattle.ppp_chat_words.specs.Told.{told}
use Rattle.ppp_chat_words.specs.declared.options.ChatWords.{ChatWords}
use Rattle.ppp_outside.specs.Files.{NamedFile}
use Rattle.ppp_words.specs.declared.backslash.Backslash.TheVariants.{Dropped, Kept}
use Rattle.ppp_options.specs.FileRead.{file_words}
use Rattle.ppp_option_words.specs.Results.{ok_then}
use Rattle.ppp_option_words.specs.declared.fault.OptionsFault.{OptionsFault}
use Rattle.ppp_option_words.specs.declared.fault.OptionsFault.TheVariants.{BadScript}

-- the word at a place, where it is one
abbrev pub word_at : List (List ℕ) → ℕ → List ℕ
word_at words place = unwrap_or (slice_get words place) []

-- the last octets, of which there are so many
abbrev pub last_octets : ℕ → List ℕ → List ℕ
last_octets count octets = drop (length octets - count) octets

-- whether a word is `chat`, or ends with `/chat`
abbrev pub is_chat : List ℕ → Bool
is_chat word = bytes_eq word (codes "chat") || bytes_eq (last_octets 5 word) (codes "/chat")

-- a script's words are counted from 1
abbrev pub named_word : List (List ℕ) → Option ℕ → List ℕ
named_word words None = []
named_word words (Some number) = word_at words (number - 1)

-- a script, or the word of it that is wrong
abbrev pub script_read : List (List ℕ) → ℕ → Result (List ScriptItem) ScriptFault → Result ChatScript OptionsFault
script_read words timeout_s (Ok items) = Ok (record { items = items; timeout_s = timeout_s })
script_read words timeout_s (Err fault) = Err (BadScript (named_word words (word_of fault)))

-- the script that these words are
abbrev pub script_in : List (List ℕ) → ℕ → Result ChatScript OptionsFault
script_in words timeout_s = script_read words timeout_s (script_of words)

-- the script's words: those of the file, where one is named, or else those from the script's place on
abbrev pub script_words : List NamedFile → List (List ℕ) → ℕ → Option ℕ → Result (List (List ℕ)) OptionsFault
script_words files words place None = Ok (drop place words)
script_words files words place (Some at) = file_words Kept files (word_at words at)

-- A word that is wrong is told before the script is looked at.
abbrev pub unless_wrong : List (List ℕ) → Option ℕ → Result ChatScript OptionsFault → Result ChatScript OptionsFault
unless_wrong words None read = read
unless_wrong words (Some place) read = Err (BadScript (word_at words place))

-- What the words behind `chat` say. A file's fault is told first: its name stands before a word that is wrong.
abbrev pub chat_read : List NamedFile → List (List ℕ) → ChatWords → Result ChatScript OptionsFault
chat_read files words said =
    ok_then (script_words files words said.script said.file)
    (λ (script : List (List ℕ)). unless_wrong words said.wrong (script_in script said.timeout_s))

-- the words of the value, whose first is the program
abbrev pub program_read : List NamedFile → List ℕ → Result (List (List ℕ)) ℕ → Result ChatScript OptionsFault
program_read files value (Err line) = Err (BadScript value)
program_read files value (Ok []) = Err (BadScript value)
program_read files value (Ok (program ∷ words)) =
    if is_chat program then chat_read files words (told false words) else Err (BadScript program)

-- The script of a `connect` value.
abbrev pub connect_read : List NamedFile → List ℕ → Result ChatScript OptionsFault
connect_read files value = program_read files value (split_words Dropped value)
