-- What files in memory answer.
use Rattle.std.proofs.Common.{◌≡◌, ℕ, List, Option, false, refl}
use Rattle.ppp_outside.specs.Calls.{is_listed}
use Rattle.ppp_outside.specs.Files.{ReadsFile, file_of}
use Rattle.ppp_outside.specs.declared.files.WholeFile.{WholeFile}
use Rattle.ppp_outside.specs.declared.files.WholeFile.TheVariants as whole
use Rattle.ppp_memory.specs.Files.{Answers, FilesInMemory, IsFound, after_whole, counted_after, state_of}

pub answers_found : (s : FilesInMemory) (name : List ℕ) (answer : WholeFile) → is_listed s.calls s.failing ≡ false → IsFound (file_of name s.files) answer → Answers s name answer
answers_found s name (whole.Bytes octets) called found = (called, found)
answers_found s name whole.NoFile called found = (called, found)
answers_found s name whole.Failed called found = absurd found
answers_found s name whole.NoMemory called found = (called, found)

pub reads_found : (s : FilesInMemory) (name : List ℕ) (answer : WholeFile) → IsFound (file_of name s.files) answer → ReadsFile (state_of s) (state_of (counted_after s false)) name answer
reads_found s name (whole.Bytes octets) found = record { files = refl; is_file = found; faults = refl }
reads_found s name whole.NoFile found = record { files = refl; is_file = found; faults = refl }
reads_found s name whole.Failed found = absurd found
reads_found s name whole.NoMemory found = record { files = refl; is_file = tt; faults = refl }

pub after_found : (s : FilesInMemory) (found : Option (List ℕ)) (answer : WholeFile) → IsFound found answer → counted_after s false ≡ after_whole s answer
after_found s found (whole.Bytes octets) is = refl
after_found s found whole.NoFile is = refl
after_found s found whole.Failed is = absurd is
after_found s found whole.NoMemory is = refl
