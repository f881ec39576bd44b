-- From a file's words to what is answered, and what a `connect` value's script is.
use Rattle.std.proofs.Common.{◌≡◌, ℕ, ◌-◌, List, Option, Some, None, IfSome, Result, drop, take, length, refl}
use Rattle.std.proofs.Math.Seq.{take-length}
use Rattle.std.proofs.lemmas.List.{length-drop, drop-map}
use Rattle.std.specs.Global.{Vec}
use Rattle.ppp_chat_words.specs.FileWords.{IsWordsOf, ReadsWords, words_at, failed as read_failed}
use Rattle.ppp_chat_words.specs.Split.{FrontWords, octets_in}
use Rattle.ppp_chat_words.specs.declared.file.FileWords.{FileWords}
use Rattle.ppp_chat_words.specs.declared.file.FileWords.TheVariants as read
use Rattle.ppp_chat_words.specs.declared.options.ChatWords.{ChatWords}
use Rattle.ppp_outside.specs.Files.{NamedFile, FilesState}
use Rattle.ppp_words.specs.declared.backslash.Backslash.{Backslash}
use Rattle.ppp_words.specs.declared.backslash.Backslash.TheVariants.{Kept}
use Rattle.ppp_option_words.specs.Answers.{GivesUnlessFailed, ReadsWith, failed}
use Rattle.ppp_options.specs.Connect.{chat_read, script_in, unless_wrong, word_at}
use Rattle.ppp_options.specs.declared.file_words.FileText.{FileText}
use Rattle.ppp_options.specs.FileRead.{FollowsRead, file_read, file_words, read_or_fault, text_of}
use Rattle.ppp_option_words.specs.Results.{ok_then}
use Rattle.ppp_option_words.specs.declared.fault.OptionsFault.{OptionsFault}

gives_words : (name : List ℕ) (was : Option FrontWords) (file : FileWords) (answer : Result FileText OptionsFault)
    → IsWordsOf file was → FollowsRead name file answer → GivesUnlessFailed text_of answer (read_or_fault name was)
gives_words name was (read.Words words) answer is_read follows = rw (follows, is_read) refl
gives_words name was (read.OpenQuote words line) answer is_read follows = rw (follows, is_read) refl
gives_words name was read.NoFile answer is_read follows = rw (follows, is_read) refl
gives_words name was read.Failed answer is_read follows = rw follows tt
gives_words name was read.NoMemory answer is_read follows = rw follows tt

failed_as : (name : List ℕ) (file : FileWords) (answer : Result FileText OptionsFault) → FollowsRead name file answer → failed answer ≡ read_failed file
failed_as name (read.Words words) answer follows = rw follows refl
failed_as name (read.OpenQuote words line) answer follows = rw follows refl
failed_as name read.NoFile answer follows = rw follows refl
failed_as name read.Failed answer follows = rw follows refl
failed_as name read.NoMemory answer follows = rw follows refl

pub reads_file : (old new : FilesState) (name : List ℕ) (backslash : Backslash) (file : FileWords) (answer : Result FileText OptionsFault)
    → ReadsWords old new name backslash file → FollowsRead name file answer
    → ReadsWith old new text_of answer (λ all. file_read backslash all name)
reads_file old new name backslash file answer reads follows = record {
  files = reads.files;
  gives = each old.files reads.words;
  faults = rw (failed_as name file answer follows) reads.faults;
}
  where
    each : (files : Option (List NamedFile)) → IfSome files (λ all. IsWordsOf file (words_at backslash all name))
        → IfSome files (λ all. GivesUnlessFailed text_of answer (file_read backslash all name))
    each None words = tt
    each (Some all) words = gives_words name (words_at backslash all name) file answer words follows

-- the words from a place on
pub octets_from : (words : List (Vec ℕ)) (place : ℕ) → octets_in (take (length words - place) (drop place words)) ≡ drop place (octets_in words)
octets_from words place =
    let all : take (length words - place) (drop place words) ≡ drop place words =
    (let size : length words - place ≡ length (drop place words) = rw (length-drop place words) refl in rw size (take-length (drop place words))) in
    rw (all, drop-map (λ (word : Vec ℕ). word.items) place words) refl

-- a script that stands behind `chat`, and one of a file
pub chat_alone : (files : List NamedFile) (words : List (List ℕ)) (said : ChatWords) → said.file ≡ None
    → chat_read files words said ≡ unless_wrong words said.wrong (script_in (drop said.script words) said.timeout_s)
chat_alone files words said none = rw none refl

pub chat_of_file : (files : List NamedFile) (words : List (List ℕ)) (said : ChatWords) (at : ℕ) → said.file ≡ Some at
    → chat_read files words said ≡ ok_then (file_words Kept files (word_at words at)) (λ (script : List (List ℕ)). unless_wrong words said.wrong (script_in script said.timeout_s))
chat_of_file files words said at some = rw some refl
