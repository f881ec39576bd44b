-- What the words behind chat's name are, up to its script (chat(8), "Options").
use Rattle.std.specs.Prelude.{ℕ, ◌+◌, ◌==◌, ◌&&◌, ◌||◌, not, nat_le, Bool, true, false, if◌then◌else◌, List, [], ◌∷◌, length, codes, Option, Some, None}
use Rattle.std.specs.Str.{bytes_eq}
use Rattle.ppp_base.specs.Numbers.{number_of}
use Rattle.ppp_base.specs.declared.numbers.LeadingZeros.TheVariants.{Lawful}
use Rattle.ppp_chat_words.specs.declared.keyword.Keyword.{Keyword}
use Rattle.ppp_chat_words.specs.declared.keyword.Keyword.TheVariants.{Quiet, Timeout, File, Line}

-- the option that a word is, if it is one
abbrev pub keyword_of : List ℕ → Option Keyword
keyword_of word =
    if bytes_eq word (codes "-t") then Some Timeout
    else if bytes_eq word (codes "-f") then Some File
    else if bytes_eq word (codes "-L") then Some Line
    else if bytes_eq word (codes "-v") || bytes_eq word (codes "-V") || bytes_eq word (codes "-s") || bytes_eq word (codes "-S") then Some Quiet
    else None

abbrev pub begins_with_hyphen : List ℕ → Bool
begins_with_hyphen [] = false
begins_with_hyphen (octet ∷ octets) = octet == 45

-- Words from the front on. Places are counted from 0.
pub data Front : Type 0 where
  -- no words are left; so many there were
  End : ℕ → Front
  -- the script begins at this place
  Script : ℕ → Front
  -- the word at this place is wrong
  Wrong : ℕ → Front
  -- -t with so many seconds
  Seconds : ℕ → Front → Front
  -- -f, whose value stands at this place
  FileAt : ℕ → Front → Front
  -- -L, whose value stands at this place
  LineAt : ℕ → Front → Front

-- what may stand at the front: whether -L may stand there, and which of -f and -L have stood there
pub record Setting : Type 0 where
  pub dials : Bool
  pub file : Bool
  pub line : Bool

-- -f stands once at most, -L once at most where it may stand at all
abbrev pub may_stand : Setting → Keyword → Bool
may_stand s Quiet = true
may_stand s Timeout = true
may_stand s File = not s.file
may_stand s Line = s.dials && not s.line

-- an option whose value is looked for, and its own place
pub record Waiting : Type 0 where
  pub keyword : Keyword
  pub place : ℕ

-- behind an option that may stand where it does
abbrev pub behind_keyword : Keyword → ℕ → (Option Waiting → Front) → Front
behind_keyword Quiet place rest = rest None
behind_keyword Timeout place rest = rest (Some (record { keyword = Timeout; place = place }))
behind_keyword File place rest = rest (Some (record { keyword = File; place = place }))
behind_keyword Line place rest = rest (Some (record { keyword = Line; place = place }))

-- a word that begins with -
abbrev pub at_option : Setting → Option Keyword → ℕ → (Option Waiting → Front) → Front
at_option s None place rest = Wrong place
at_option s (Some keyword) place rest = if may_stand s keyword then behind_keyword keyword place rest else Wrong place

-- a word where no value is looked for; beside -f no script may stand
abbrev pub at_word : Setting → List ℕ → ℕ → (Option Waiting → Front) → Front
at_word s word place rest =
    if begins_with_hyphen word then at_option s (keyword_of word) place rest
    else if s.file then Wrong place
    else Script place

-- a value of -t: a number from 1 to 65535
abbrev pub at_seconds : Option ℕ → ℕ → Front → Front
at_seconds None place rest = Wrong place
at_seconds (Some seconds) place rest = Seconds seconds rest

-- A value of an option, at its place. What is wrong with a value is told at its option.
abbrev pub at_value : Setting → Keyword → ℕ → List ℕ → ℕ → (Setting → Front) → Front
at_value s Quiet at word place rest = rest s
at_value s Timeout at word place rest = at_seconds (number_of Lawful 1 65535 word) at (rest s)
at_value s File at word place rest = FileAt place (rest (record s { file = true }))
at_value s Line at word place rest =
    if nat_le (length word) 255 then LineAt place (rest (record s { line = true })) else Wrong at

-- The words from this place on.
abbrev pub front : Setting → Option Waiting → ℕ → List (List ℕ) → Front
front s None place [] = End place
front s (Some waiting) place [] = Wrong waiting.place
front s None place (word ∷ words) = at_word s word place (λ waits. front s waits (place + 1) words)
front s (Some waiting) place (word ∷ words) =
    at_value s waiting.keyword waiting.place word place (λ after. front after None (place + 1) words)
