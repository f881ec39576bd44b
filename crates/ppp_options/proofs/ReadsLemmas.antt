-- Reading with files, one call behind another.
use Rattle.std.proofs.Common.{◌≡◌, ◌∙◌, sym, subst, List, Option, Some, None, IfSome, Result, Ok, Err, false, refl}
use Rattle.ppp_outside.specs.Counts.{CountsFault}
use Rattle.ppp_outside.specs.Files.{NamedFile, FilesState}
use Rattle.ppp_option_words.specs.Answers.{Gives, GivesUnlessFailed, ReadsWith, failed}
use Rattle.ppp_option_words.specs.Results.{ok_then}
use Rattle.ppp_option_words.specs.declared.fault.OptionsFault.{OptionsFault}
use Rattle.ppp_option_words.specs.declared.fault.OptionsFault.TheVariants.{NoMemory, FileFault}

-- an answer that is exact is one unless the outside failed
pub gives_weak : {X Y : Type 0} (view : X → Y) (answer : Result X OptionsFault) (value read : Result Y OptionsFault)
    → Gives view answer value → read ≡ value → GivesUnlessFailed view answer read
gives_weak view (Ok x) value read gives same = same ∙ gives
gives_weak view (Err NoMemory) value read gives same = tt
gives_weak view (Err (FileFault name)) value read gives same = tt
gives_weak view (Err fault) value read gives same = same ∙ gives

not_failed : {X Y : Type 0} (view : X → Y) (answer : Result X OptionsFault) (value : Result Y OptionsFault) → Gives view answer value → failed answer ≡ false
not_failed view (Ok x) value gives = refl
not_failed view (Err (FileFault name)) value gives = absurd gives
not_failed view (Err fault) value gives = refl

-- a fault passes what would follow
pub err_passes : {X Y Z W : Type 0} (view : X → Y) (other : Z → W) (fault : OptionsFault) (read : Result Y OptionsFault) (rest : Y → Result W OptionsFault)
    → GivesUnlessFailed view (Err fault) read → GivesUnlessFailed other (Err fault) (ok_then read rest)
err_passes view other NoMemory read rest gives = tt
err_passes view other (FileFault name) read rest gives = tt
err_passes view other fault read rest gives = rw gives refl

-- what asks for no file
pub pure_reads : {X Y : Type 0} (state : FilesState) (view : X → Y) (answer : Result X OptionsFault) (value : Result Y OptionsFault)
    (read : List NamedFile → Result Y OptionsFault)
    → Gives view answer value → ((all : List NamedFile) → read all ≡ value) → ReadsWith state state view answer read
pure_reads state view answer value read gives same = record {
  files = refl;
  gives = each state.files;
  faults = rw (not_failed view answer value gives) refl;
}
  where
    each : (files : Option (List NamedFile)) → IfSome files (λ all. GivesUnlessFailed view answer (read all))
    each None = tt
    each (Some all) = gives_weak view answer value (read all) gives (same all)

-- what has been read so far, where `rest` is left of `whole`
pub record Reached {Y : Type 0} (old mid : FilesState) (whole rest : List NamedFile → Result Y OptionsFault) : Type 0 where
  pub files : mid.files ≡ old.files
  pub faults : mid.faults ≡ old.faults
  pub same : IfSome old.files (λ all. rest all ≡ whole all)

pub reached_start : {Y : Type 0} (old : FilesState) (whole : List NamedFile → Result Y OptionsFault) → Reached old old whole whole
reached_start old whole = record { files = refl; faults = refl; same = each old.files }
  where
    each : (files : Option (List NamedFile)) → IfSome files (λ all. whole all ≡ whole all)
    each None = tt
    each (Some all) = refl

step_same : {X Y Z : Type 0} (files : Option (List NamedFile)) (view : X → Y) (x : X) (whole rest : List NamedFile → Result Z OptionsFault)
    (step : List NamedFile → Result Y OptionsFault) (next : List NamedFile → Y → Result Z OptionsFault)
    → IfSome files (λ all. rest all ≡ whole all) → IfSome files (λ all. step all ≡ Ok (view x))
    → ((all : List NamedFile) → rest all ≡ ok_then (step all) (next all)) → IfSome files (λ all. next all (view x) ≡ whole all)
step_same None view x whole rest step next same read goes = tt
step_same (Some all) view x whole rest step next same read goes =
    let there : rest all ≡ next all (view x) = rw read at (goes all) in sym there ∙ same

pub step_ok : {X Y Z : Type 0} (old mid new : FilesState) (view : X → Y) (x : X) (whole rest : List NamedFile → Result Z OptionsFault)
    (step : List NamedFile → Result Y OptionsFault) (next : List NamedFile → Y → Result Z OptionsFault)
    → Reached old mid whole rest → ReadsWith mid new view (Ok x) step → ((all : List NamedFile) → rest all ≡ ok_then (step all) (next all))
    → Reached old new whole (λ all. next all (view x))
step_ok old mid new view x whole rest step next reached reads goes = record {
  files = reads.files ∙ reached.files;
  faults = reads.faults ∙ reached.faults;
  same = step_same old.files view x whole rest step next reached.same
      (let P = λ (files : Option (List NamedFile)). IfSome files (λ all. step all ≡ Ok (view x)) in subst P reached.files reads.gives) goes;
}

step_fails : {X Y Z W : Type 0} (files : Option (List NamedFile)) (view : X → Y) (other : W → Z) (fault : OptionsFault)
    (whole rest : List NamedFile → Result Z OptionsFault) (step : List NamedFile → Result Y OptionsFault) (next : List NamedFile → Y → Result Z OptionsFault)
    → IfSome files (λ all. rest all ≡ whole all) → IfSome files (λ all. GivesUnlessFailed view (Err fault) (step all))
    → ((all : List NamedFile) → rest all ≡ ok_then (step all) (next all)) → IfSome files (λ all. GivesUnlessFailed other (Err fault) (whole all))
step_fails None view other fault whole rest step next same read goes = tt
step_fails (Some all) view other fault whole rest step next same read goes =
    rw (← same, goes all) (err_passes view other fault (step all) (next all) read)

failed_alike : (X W : Type 0) (fault : OptionsFault) → failed {X = X} (Err fault) ≡ failed {X = W} (Err fault)
failed_alike X W (FileFault name) = refl
failed_alike X W fault = refl

pub step_err : {X Y Z W : Type 0} (old mid new : FilesState) (view : X → Y) (other : W → Z) (fault : OptionsFault)
    (whole rest : List NamedFile → Result Z OptionsFault) (step : List NamedFile → Result Y OptionsFault) (next : List NamedFile → Y → Result Z OptionsFault)
    → Reached old mid whole rest → ReadsWith mid new view (Err fault) step → ((all : List NamedFile) → rest all ≡ ok_then (step all) (next all))
    → ReadsWith old new other (Err fault) whole
step_err {X} {Y} {Z} {W} old mid new view other fault whole rest step next reached reads goes = record {
  files = reads.files ∙ reached.files;
  gives = step_fails old.files view other fault whole rest step next reached.same
      (let P = λ (files : Option (List NamedFile)). IfSome files (λ all. GivesUnlessFailed view (Err fault) (step all)) in subst P reached.files reads.gives) goes;
  faults = let counts : CountsFault (failed {X = X} (Err fault)) old.faults new.faults = rw reached.faults at reads.faults in
      rw (← failed_alike X W fault) counts;
}

pub step_end : {X Z : Type 0} (old mid : FilesState) (view : X → Z) (x : X) (whole rest : List NamedFile → Result Z OptionsFault)
    → Reached old mid whole rest → ((all : List NamedFile) → rest all ≡ Ok (view x)) → ReadsWith old mid view (Ok x) whole
step_end old mid view x whole rest reached ends = record {
  files = reached.files;
  gives = each old.files reached.same;
  faults = reached.faults;
}
  where
    each : (files : Option (List NamedFile)) → IfSome files (λ all. rest all ≡ whole all) → IfSome files (λ all. whole all ≡ Ok (view x))
    each None same = tt
    each (Some all) same = sym same ∙ ends all

-- the last call behind what was read
pub step_last : {X Z : Type 0} (old mid new : FilesState) (view : X → Z) (answer : Result X OptionsFault) (whole rest : List NamedFile → Result Z OptionsFault)
    → Reached old mid whole rest → ReadsWith mid new view answer rest → ReadsWith old new view answer whole
step_last old mid new view answer whole rest reached reads = record {
  files = reads.files ∙ reached.files;
  gives = each old.files reached.same (let P = λ (files : Option (List NamedFile)). IfSome files (λ all. GivesUnlessFailed view answer (rest all)) in subst P reached.files reads.gives);
  faults = rw reached.faults at reads.faults;
}
  where
    each : (files : Option (List NamedFile)) → IfSome files (λ all. rest all ≡ whole all) → IfSome files (λ all. GivesUnlessFailed view answer (rest all))
        → IfSome files (λ all. GivesUnlessFailed view answer (whole all))
    each None same gives = tt
    each (Some all) same gives = rw (← same) gives
