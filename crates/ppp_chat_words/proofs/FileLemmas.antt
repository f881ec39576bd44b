-- From a file that was read to its words.
use Rattle.std.proofs.Common.{◌≡◌, ℕ, true, List, Option, Some, None, IfSome, arith, refl}
use Rattle.std.proofs.lemmas.Str.{utf8_valid_len-IsUtf8}
use Rattle.std.specs.Str.{IsUtf8}
use Rattle.ppp_outside.specs.Files.{NamedFile, FilesState, IsFileOf, ReadsFile, failed as file_failed}
use Rattle.ppp_outside.specs.declared.files.WholeFile.{WholeFile}
use Rattle.ppp_outside.specs.declared.files.WholeFile.TheVariants as whole
use Rattle.ppp_words.specs.declared.backslash.Backslash.{Backslash}
use Rattle.ppp_chat_words.specs.FileWords.{is_text, words_at, FollowsFile, IsWordsOf, failed, ReadsWords}
use Rattle.ppp_chat_words.specs.declared.file.FileWords.{FileWords}
use Rattle.ppp_chat_words.specs.declared.file.FileWords.TheVariants.{Words, OpenQuote, NoFile, Failed, NoMemory}

pub text_is_text : (name : List ℕ) → IsUtf8 name → is_text name ≡ true
text_is_text name utf8 = rw (utf8_valid_len-IsUtf8 name utf8) (grind arith)

words_of_file : (backslash : Backslash) (name : List ℕ) (files : Option (List NamedFile)) (file : WholeFile) (answer : FileWords)
    → is_text name ≡ true → IsFileOf file name files → FollowsFile backslash file answer
    → IfSome files (λ all. IsWordsOf answer (words_at backslash all name))
words_of_file backslash name None file answer text is_file follows = tt
words_of_file backslash name (Some all) (whole.Bytes octets) (Words words) text is_file follows = rw (text, is_file, follows) refl
words_of_file backslash name (Some all) (whole.Bytes octets) (OpenQuote words line) text is_file follows = rw (text, is_file, follows) refl
words_of_file backslash name (Some all) (whole.Bytes octets) NoFile text is_file follows = absurd follows
words_of_file backslash name (Some all) (whole.Bytes octets) Failed text is_file follows = tt
words_of_file backslash name (Some all) (whole.Bytes octets) NoMemory text is_file follows = tt
words_of_file backslash name (Some all) whole.NoFile answer text is_file follows = rw (follows, text, is_file) refl
words_of_file backslash name (Some all) whole.Failed answer text is_file follows = rw follows tt
words_of_file backslash name (Some all) whole.NoMemory answer text is_file follows = rw follows tt

counted_as : (backslash : Backslash) (file : WholeFile) (answer : FileWords) → FollowsFile backslash file answer → failed answer ≡ file_failed file
counted_as backslash (whole.Bytes octets) (Words words) follows = refl
counted_as backslash (whole.Bytes octets) (OpenQuote words line) follows = refl
counted_as backslash (whole.Bytes octets) NoFile follows = absurd follows
counted_as backslash (whole.Bytes octets) Failed follows = absurd follows
counted_as backslash (whole.Bytes octets) NoMemory follows = refl
counted_as backslash whole.NoFile answer follows = rw follows refl
counted_as backslash whole.Failed answer follows = rw follows refl
counted_as backslash whole.NoMemory answer follows = rw follows refl

pub reads_words : (old new : FilesState) (name : List ℕ) (backslash : Backslash) (file : WholeFile) (answer : FileWords)
    → IsUtf8 name → ReadsFile old new name file → FollowsFile backslash file answer → ReadsWords old new name backslash answer
reads_words old new name backslash file answer utf8 reads follows = record {
  files = reads.files;
  words = words_of_file backslash name old.files file answer (text_is_text name utf8) reads.is_file follows;
  faults = rw (counted_as backslash file answer follows) reads.faults;
}
