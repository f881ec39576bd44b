-- What a call answers.
use Rattle.std.specs.Prelude.{◌≡◌, Bool, true, false, List, Result, Ok, Err, IfSome}
use Rattle.ppp_outside.specs.Counts.{CountsFault}
use Rattle.ppp_outside.specs.Files.{NamedFile, FilesState}
use Rattle.ppp_option_words.specs.declared.fault.OptionsFault.{OptionsFault}
use Rattle.ppp_option_words.specs.declared.fault.OptionsFault.TheVariants.{NoMemory, FileFault}

-- The answer is what was read, unless memory ran out.
abbrev pub Gives : {X Y : Type 0} → (X → Y) → Result X OptionsFault → Result Y OptionsFault → Type 0
Gives view (Ok x) read = read ≡ Ok (view x)
Gives view (Err NoMemory) read = Unit {0}
Gives view (Err (FileFault name)) read = ⊥
Gives view (Err fault) read = read ≡ Err fault

-- The answer is what was read, unless memory ran out or the outside failed.
abbrev pub GivesUnlessFailed : {X Y : Type 0} → (X → Y) → Result X OptionsFault → Result Y OptionsFault → Type 0
GivesUnlessFailed view (Ok x) read = read ≡ Ok (view x)
GivesUnlessFailed view (Err NoMemory) read = Unit {0}
GivesUnlessFailed view (Err (FileFault name)) read = Unit {0}
GivesUnlessFailed view (Err fault) read = read ≡ Err fault

-- whether the answer is a fault of the outside
abbrev pub failed : {X : Type 0} → Result X OptionsFault → Bool
failed (Ok x) = false
failed (Err (FileFault name)) = true
failed (Err fault) = false

-- The answer is what is read with the files, where they are told. The files stay as they are, and a fault of the outside is answered exactly
-- where their faults rose.
pub record ReadsWith {X Y : Type 0} (old new : FilesState) (view : X → Y) (answer : Result X OptionsFault)
    (read : List NamedFile → Result Y OptionsFault) : Type 0 where
  pub files : new.files ≡ old.files
  pub gives : IfSome old.files (λ all. GivesUnlessFailed view answer (read all))
  pub faults : CountsFault (failed answer) old.faults new.faults
