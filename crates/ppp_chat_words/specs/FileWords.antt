-- The words of a file.
use Rattle.std.specs.Prelude.{◌≡◌, ℕ, ◌==◌, Bool, true, false, if◌then◌else◌, List, length, Option, Some, None, IfSome, option_map}
use Rattle.std.specs.Global.{Vec}
use Rattle.std.specs.Str.Lossy.{utf8_valid_len}
use Rattle.ppp_outside.specs.Counts.{CountsFault}
use Rattle.ppp_outside.specs.Files.{NamedFile, FilesState, file_of}
use Rattle.ppp_outside.specs.declared.files.WholeFile.{WholeFile}
use Rattle.ppp_outside.specs.declared.files.WholeFile.TheVariants as whole
use Rattle.ppp_words.specs.declared.backslash.Backslash.{Backslash}
use Rattle.ppp_chat_words.specs.Split.{FrontWords, split_front, octets_in}
use Rattle.ppp_chat_words.specs.declared.file.FileWords.{FileWords}
use Rattle.ppp_chat_words.specs.declared.file.FileWords.TheVariants.{Words, OpenQuote, NoFile, Failed, NoMemory}

-- whether octets are a text in UTF-8: only such a text is a file's name
abbrev pub is_text : List ℕ → Bool
is_text octets = utf8_valid_len octets == length octets

-- what stands under a name
abbrev pub octets_at : List ℕ → List NamedFile → Option (List ℕ)
octets_at name files = if is_text name then file_of name files else None

-- the words of the file of this name up to its end or to an open quote; none where there is no such file
abbrev pub words_at : Backslash → List NamedFile → List ℕ → Option FrontWords
words_at backslash files name = option_map (split_front backslash) (octets_at name files)

-- words, and the line of the open quote behind them, if there is one
abbrev pub words_behind : List (Vec ℕ) → Option ℕ → FrontWords
words_behind words open_quote = record { words = octets_in words; open_quote = open_quote }

-- The answer is what the octets have, unless memory ran out.
abbrev pub HasWords : Backslash → List ℕ → FileWords → Type 0
HasWords backslash octets (Words words) = split_front backslash octets ≡ words_behind words.items None
HasWords backslash octets (OpenQuote words line) = split_front backslash octets ≡ words_behind words.items (Some line)
HasWords backslash octets NoFile = ⊥
HasWords backslash octets Failed = ⊥
HasWords backslash octets NoMemory = Unit {0}

-- the answer behind what reading a file whole has answered
abbrev pub FollowsFile : Backslash → WholeFile → FileWords → Type 0
FollowsFile backslash (whole.Bytes octets) answer = HasWords backslash octets.items answer
FollowsFile backslash whole.NoFile answer = answer ≡ NoFile
FollowsFile backslash whole.Failed answer = answer ≡ Failed
FollowsFile backslash whole.NoMemory answer = answer ≡ NoMemory

-- The answer is what the file of the name has, and there is no file only where nothing stands under the name.
abbrev pub IsWordsOf : FileWords → Option FrontWords → Type 0
IsWordsOf (Words words) read = read ≡ Some (words_behind words.items None)
IsWordsOf (OpenQuote words line) read = read ≡ Some (words_behind words.items (Some line))
IsWordsOf NoFile read = read ≡ None
IsWordsOf Failed read = Unit {0}
IsWordsOf NoMemory read = Unit {0}

abbrev pub failed : FileWords → Bool
failed (Words words) = false
failed (OpenQuote words line) = false
failed NoFile = false
failed Failed = true
failed NoMemory = false

-- The file of this name was asked for, where the name is a text, and split into words. The files stay as they are; a fault of the outside is
-- answered exactly where their faults rose.
pub record ReadsWords (old new : FilesState) (name : List ℕ) (backslash : Backslash) (answer : FileWords) : Type 0 where
  pub files : new.files ≡ old.files
  pub words : IfSome old.files (λ all. IsWordsOf answer (words_at backslash all name))
  pub faults : CountsFault (failed answer) old.faults new.faults
