-- What a clause sees of files, and what reading one does.
use Rattle.std.specs.Prelude.{◌≡◌, ℕ, Bool, true, false, nat_eq, List, Option, Some, None, IfSome, option_map, find}
use Rattle.std.specs.Cmp.Lexicographic.{pointwise}
use Rattle.ppp_outside.specs.Counts.{CountsFault}
use Rattle.ppp_outside.specs.declared.files.WholeFile.{WholeFile}
use Rattle.ppp_outside.specs.declared.files.WholeFile.TheVariants as whole

-- a file under its name
pub record NamedFile : Type 0 where
  pub name : List ℕ
  pub octets : List ℕ

-- what stands under a name: of several files of one name, the first counts
abbrev pub file_of : List ℕ → List NamedFile → Option (List ℕ)
file_of name files = option_map (λ file. file.octets) (find (λ file. pointwise nat_eq file.name name) files)

-- the files that there are, where they are told; how often reading one has failed
pub record FilesState : Type 0 where
  pub files : Option (List NamedFile)
  pub faults : ℕ

abbrev pub failed : WholeFile → Bool
failed (whole.Bytes octets) = false
failed whole.NoFile = false
failed whole.Failed = true
failed whole.NoMemory = false

-- What is read is what stands under the name, and there is no file only where nothing does.
abbrev pub IsFileOf : WholeFile → List ℕ → Option (List NamedFile) → Type 0
IsFileOf (whole.Bytes octets) name files = IfSome files (λ all. file_of name all ≡ Some octets.items)
IsFileOf whole.NoFile name files = IfSome files (λ all. file_of name all ≡ None)
IsFileOf whole.Failed name files = Unit {0}
IsFileOf whole.NoMemory name files = Unit {0}

-- The file of this name was asked for. The files stay as they are.
pub record ReadsFile (old new : FilesState) (name : List ℕ) (answer : WholeFile) : Type 0 where
  pub files : new.files ≡ old.files
  pub is_file : IsFileOf answer name old.files
  pub faults : CountsFault (failed answer) old.faults new.faults
