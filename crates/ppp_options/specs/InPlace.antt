-- The words with those of files in the place of `file` and `call`, each with its value (pppd(8), "Options files").
use Rattle.std.specs.Prelude.{ℕ, zero, suc, nat_le, if◌then◌else◌, List, [], ◌∷◌, ◌++◌, length, codes, Option, Some, None, Result, Ok, Err}
use Rattle.ppp_outside.specs.Files.{NamedFile}
use Rattle.ppp_words.specs.declared.backslash.Backslash.TheVariants.{Dropped}
use Rattle.ppp_options.specs.FileRead.{FileRead, file_read}
use Rattle.ppp_options.specs.declared.file_words.OpenQuote.{OpenQuote}
use Rattle.ppp_option_words.specs.Table.{kind_of}
use Rattle.ppp_option_words.specs.declared.fault.OptionsFault.{OptionsFault}
use Rattle.ppp_option_words.specs.declared.fault.OptionsFault.TheVariants.{BadQuote, Depth, OutOfRange}
use Rattle.ppp_option_words.specs.declared.kind.Kind.{Kind}
use Rattle.ppp_option_words.specs.declared.kind.Kind.TheVariants as kind
use Rattle.ppp_option_words.specs.declared.kind.Included.{Included}
use Rattle.ppp_option_words.specs.declared.kind.Included.TheVariants.{File, Call}
use Rattle.ppp_option_words.specs.declared.kind.Valued.{Valued}
use Rattle.ppp_options.specs.declared.given.Awaits.{Awaits}
use Rattle.ppp_options.specs.declared.given.Awaits.TheVariants.{Nothing, Value, FileName}

-- a word without a value, or the value behind a word
pub data Entry : Type 0 where
  Alone : List ℕ → Entry
  Behind : Valued → List ℕ → Entry

-- how words end: what the last one still awaits, or the fault of a file's name
pub data Ending : Type 0 where
  Open : Awaits → Ending
  Broken : OptionsFault → Ending

-- words in order, up to their end
pub record Course : Type 0 where
  pub entries : List Entry
  pub ending : Ending

abbrev pub with_entry : Entry → Course → Course
with_entry entry course = record { entries = entry ∷ course.entries; ending = course.ending }

abbrev pub follow_ending : List Entry → Ending → (Awaits → Course) → Course
follow_ending entries (Open awaits) rest = record { entries = entries ++ (rest awaits).entries; ending = (rest awaits).ending }
follow_ending entries (Broken fault) rest = record { entries = entries; ending = Broken fault }

-- Words behind others: a value may be looked for beyond a file's end.
abbrev pub follow : Course → (Awaits → Course) → Course
follow course rest = follow_ending course.entries course.ending rest

-- a word where no value is looked for
abbrev pub at_word : List ℕ → Option Kind → (Awaits → Course) → Course
at_word word (Some (kind.Included included)) rest = rest (FileName included)
at_word word (Some (kind.Valued valued)) rest = rest (Value valued)
at_word word (Some other) rest = with_entry (Alone word) (rest Nothing)
at_word word None rest = with_entry (Alone word) (rest Nothing)

-- behind a file's words: a quote that is open there is a fault, whatever is awaited
abbrev pub behind_file : Option OpenQuote → (Awaits → Course) → Awaits → Course
behind_file None rest awaits = rest awaits
behind_file (Some quote) rest awaits = record { entries = []; ending = Broken (BadQuote quote.name quote.line) }

-- a file's name: its words stand in its place
abbrev pub at_file : Result FileRead OptionsFault → (List (List ℕ) → Course) → (Awaits → Course) → Course
at_file (Err fault) inner rest = record { entries = []; ending = Broken fault }
at_file (Ok file) inner rest = follow (inner file.words) (behind_file file.open_quote rest)

-- words, where files are read so and their words stand so
abbrev pub placed : (Included → List ℕ → Result FileRead OptionsFault) → (List (List ℕ) → Course) → Awaits → List (List ℕ) → Course
placed file inner awaits [] = record { entries = []; ending = Open awaits }
placed file inner Nothing (word ∷ words) = at_word word (kind_of word) (λ awaits. placed file inner awaits words)
placed file inner (Value valued) (word ∷ words) = with_entry (Behind valued word) (placed file inner Nothing words)
placed file inner (FileName included) (word ∷ words) = at_file (file included word) inner (λ awaits. placed file inner awaits words)

-- where the file of a name lies
abbrev pub path_of : Included → List ℕ → List ℕ
path_of File name = name
path_of Call name = codes "/etc/ppp/peers/" ++ name

-- A name has at most 255 octets.
abbrev pub unless_long : List ℕ → Result FileRead OptionsFault → Result FileRead OptionsFault
unless_long name read = if nat_le (length name) 255 then read else Err (OutOfRange name)

abbrev pub too_deep : Included → List ℕ → Result FileRead OptionsFault
too_deep included name = unless_long name (Err (Depth (path_of included name)))

abbrev pub opened : List NamedFile → Included → List ℕ → Result FileRead OptionsFault
opened files included name = unless_long name (file_read Dropped files (path_of included name))

-- The words with the files in their places, where files may be nested so deep.
abbrev pub in_place : List NamedFile → ℕ → Awaits → List (List ℕ) → Course
in_place files zero awaits words = placed too_deep (λ inner. record { entries = []; ending = Open Nothing }) awaits words
in_place files (suc depth) awaits words = placed (opened files) (in_place files depth Nothing) awaits words
