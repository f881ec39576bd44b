-- What one call of `run` does to a spawner.
use Rattle.std.specs.Prelude.{◌≡◌, ℕ, Bool, true, false, Option, List, [], ◌∷◌, ◌++◌, option_map}
use Rattle.ppp_outside.specs.Contents.{HasNothing}
use Rattle.ppp_outside.specs.declared.hook_words.HookWords.{HookWords}
use Rattle.ppp_outside.specs.declared.spawner.Ran.{Ran}
use Rattle.ppp_outside.specs.declared.spawner.ScriptEnd.{ScriptEnd}
use Rattle.ppp_outside.specs.declared.spawner.ScriptEnd.TheVariants.{Exit, Killed, NotStarted}

-- whether a script could not be started
abbrev pub failed : ScriptEnd → Bool
failed (Exit status) = false
failed Killed = false
failed NotStarted = true

-- what a call adds to the record: its words and its answer, and nothing where no script was started
abbrev pub ran_by : HookWords → ScriptEnd → List Ran
ran_by words (Exit status) = record { words = words; answer = Exit status } ∷ []
ran_by words Killed = record { words = words; answer = Killed } ∷ []
ran_by words NotStarted = []

-- The record after a call, where it is told, is the one before it and what the call adds.
abbrev pub RunsAfter : Option (List Ran) → Option (List Ran) → HookWords → ScriptEnd → Type 0
RunsAfter before now words answer = now ≡ option_map (λ ran. ran ++ ran_by words answer) before

-- A spawner that was just made: its counts are 0, and where it tells its record, that is empty.
pub record IsNewSpawner (tries faults : ℕ) (runs : Option (List Ran)) : Type 0 where
  pub no_tries : tries ≡ 0
  pub no_faults : faults ≡ 0
  pub no_runs : HasNothing runs
