-- What the words behind chat's name ask for (chat(8), "Options", "Chat script").
use Rattle.std.specs.Prelude.{◌≡◌, ℕ, Bool, true, false, List, [], drop, slice_get, Option, None, Some, IfSome, is_some, option_map, unwrap_or, Result, Ok, Err}
use Rattle.ppp_chat.specs.Script.{Item}
use Rattle.ppp_chat.specs.Words.{script_of}
use Rattle.ppp_chat.specs.declared.fault.ScriptFault.{ScriptFault}
use Rattle.ppp_chat_words.specs.FileWords.{words_at}
use Rattle.ppp_chat_words.specs.Split.{FrontWords}
use Rattle.ppp_chat_words.specs.Told.{told}
use Rattle.ppp_chat_words.specs.declared.options.ChatWords.{ChatWords}
use Rattle.ppp_outside.specs.Counts.{CountsFault}
use Rattle.ppp_outside.specs.Files.{FilesState}
use Rattle.ppp_outside.specs.declared.line_words.LineWords.TheVariants.{Socket}
use Rattle.ppp_words.specs.declared.backslash.Backslash.TheVariants.{Kept}
use Rattle.chat.specs.declared.ending.Refusal.{Refusal}
use Rattle.chat.specs.declared.ending.Refusal.TheVariants.{OtherWords, BadScript, NoFile, FilesFailed, NoMemory}
use Rattle.chat.specs.declared.plan.Plan.{Plan}

-- what right words ask for: the line that is dialled, the seconds after which an expect is late, the name of the file that has the script's words,
-- where -f names one, and the words behind the options
pub record Task : Type 0 where
  pub line : List ℕ
  pub timeout_s : ℕ
  pub file : Option (List ℕ)
  pub words : List (List ℕ)

abbrev pub word_at : List (List ℕ) → ℕ → List ℕ
word_at words place = unwrap_or (slice_get words place) []

-- No word may be wrong, and -L says what is dialled.
abbrev pub task_said : List (List ℕ) → ChatWords → Option ℕ → Option ℕ → Option Task
task_said words said (Some wrong) line = None
task_said words said None None = None
task_said words said None (Some place) = Some (record {
  line = word_at words place;
  timeout_s = said.timeout_s;
  file = option_map (word_at words) said.file;
  words = drop said.script words;
})

-- what words ask for; None, where they are other words
abbrev pub task_of : List (List ℕ) → Option Task
task_of words = task_said words (told true words) (told true words).wrong (told true words).line

-- these words' script, and the line over which it is run
abbrev pub script_plan : List ℕ → ℕ → Result (List Item) ScriptFault → Result Plan Refusal
script_plan line timeout_s (Ok items) = Ok (record { line = Socket line; script = record { items = items; timeout_s = timeout_s } })
script_plan line timeout_s (Err fault) = Err BadScript

-- An open quote in the file counts as other words, whatever the words before it are.
abbrev pub quote_plan : List ℕ → ℕ → List (List ℕ) → Option ℕ → Result Plan Refusal
quote_plan line timeout_s words (Some open_quote) = Err OtherWords
quote_plan line timeout_s words None = script_plan line timeout_s (script_of words)

abbrev pub file_plan : List ℕ → ℕ → Option FrontWords → Result Plan Refusal
file_plan line timeout_s None = Err NoFile
file_plan line timeout_s (Some front) = quote_plan line timeout_s front.words front.open_quote

-- The script's words stand in the file, where one is named, and else behind the options.
abbrev pub task_plan : (List ℕ → Option FrontWords) → Task → Option (List ℕ) → Result Plan Refusal
task_plan files task None = script_plan task.line task.timeout_s (script_of task.words)
task_plan files task (Some name) = file_plan task.line task.timeout_s (files name)

abbrev pub plan_of : (List ℕ → Option FrontWords) → Option Task → Result Plan Refusal
plan_of files None = Err OtherWords
plan_of files (Some task) = task_plan files task task.file

-- What words ask for where these are the words in the files, by name.
abbrev pub planned : (List ℕ → Option FrontWords) → List (List ℕ) → Result Plan Refusal
planned files words = plan_of files (task_of words)

-- The answer is this, unless memory ran out or the files failed.
abbrev pub GivesPlan : Result Plan Refusal → Result Plan Refusal → Type 0
GivesPlan (Err NoMemory) read = Unit {0}
GivesPlan (Err FilesFailed) read = Unit {0}
GivesPlan answer read = answer ≡ read

abbrev pub files_failed : Result Plan Refusal → Bool
files_failed (Err FilesFailed) = true
files_failed answer = false

-- A file is named.
abbrev pub NamesFile : Option Task → Type 0
NamesFile None = ⊥
NamesFile (Some task) = is_some task.file ≡ true

-- What the words ask for was read. The files stay as they are, and are asked only where one is named; a fault of theirs is answered exactly where
-- their count of faults rose.
pub record Plans (old new : FilesState) (words : List (List ℕ)) (answer : Result Plan Refusal) : Type 0 where
  -- the words in the files, by name, as the files tell them where they do
  pub files : List ℕ → Option FrontWords
  pub where_told : IfSome old.files (λ all. (name : List ℕ) → files name ≡ words_at Kept all name)
  pub gives : GivesPlan answer (planned files words)
  pub same : new.files ≡ old.files
  pub faults : CountsFault (files_failed answer) old.faults new.faults
  pub unasked : ¬ NamesFile (task_of words) → new ≡ old

-- The same of the script of one file, of this name.
pub record PlansOfFile (old new : FilesState) (line : List ℕ) (timeout_s : ℕ) (name : List ℕ) (answer : Result Plan Refusal) : Type 0 where
  pub front : Option FrontWords
  pub where_told : IfSome old.files (λ all. front ≡ words_at Kept all name)
  pub gives : GivesPlan answer (file_plan line timeout_s front)
  pub same : new.files ≡ old.files
  pub faults : CountsFault (files_failed answer) old.faults new.faults
