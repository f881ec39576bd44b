-- What contracts see of files in memory.
use Rattle.std.specs.Prelude.{◌≡◌, ℕ, Bool, true, false, List, Option, Some, None}
use Rattle.ppp_outside.specs.Calls.{is_listed}
use Rattle.ppp_outside.specs.Counts.{counted, raised}
use Rattle.ppp_outside.specs.Files.{FilesState, NamedFile, failed, file_of}
use Rattle.ppp_outside.specs.declared.files.WholeFile.{WholeFile}
use Rattle.ppp_outside.specs.declared.files.WholeFile.TheVariants as whole

-- the files, which calls are to fail, and the counts
pub record FilesInMemory : Type 0 where
  pub files : List NamedFile
  pub failing : List ℕ
  pub calls : ℕ
  pub faults : ℕ

-- it tells the files
abbrev pub state_of : FilesInMemory → FilesState
state_of s = record { files = Some s.files; faults = s.faults }

-- What is answered where these octets were found, or nothing: only octets can want memory.
abbrev pub IsFound : Option (List ℕ) → WholeFile → Type 0
IsFound found (whole.Bytes octets) = found ≡ Some octets.items
IsFound found whole.NoFile = found ≡ None
IsFound found whole.Failed = ⊥
IsFound found whole.NoMemory = (octets : List ℕ) × (found ≡ Some octets)

-- What the next call answers: it fails exactly where it is to fail, and else gives what stands under the name.
abbrev pub Answers : FilesInMemory → List ℕ → WholeFile → Type 0
Answers s name (whole.Bytes octets) = (is_listed s.calls s.failing ≡ false) × IsFound (file_of name s.files) (whole.Bytes octets)
Answers s name whole.NoFile = (is_listed s.calls s.failing ≡ false) × IsFound (file_of name s.files) whole.NoFile
Answers s name whole.Failed = is_listed s.calls s.failing ≡ true
Answers s name whole.NoMemory = (is_listed s.calls s.failing ≡ false) × IsFound (file_of name s.files) whole.NoMemory

-- the counts after a call that failed or not
abbrev pub counted_after : FilesInMemory → Bool → FilesInMemory
counted_after s fails = record s { calls = raised s.calls 1; faults = counted fails s.faults }

-- after a call with this answer
abbrev pub after_whole : FilesInMemory → WholeFile → FilesInMemory
after_whole s answer = counted_after s (failed answer)
