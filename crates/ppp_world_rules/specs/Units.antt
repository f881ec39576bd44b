-- The script of a unit goes out, and comes back.
use Rattle.std.specs.Prelude.{ℕ, ◌≡◌, ◌==◌, Option, None, Some, option_map, if◌then◌else◌}
use Rattle.ppp_hooks.specs.HookState.{DoneState, JobState}
use Rattle.ppp_outside.specs.declared.replay_spawner.ReplaySpawner.{ReplaySpawner}
use Rattle.ppp_outside.specs.declared.spawner.ScriptEnd.{ScriptEnd}
use Rattle.ppp_table.specs.Jobs.{TakesJobOf}
use Rattle.ppp_table.specs.TableState.{TableState}
use Rattle.ppp_world_rules.specs.Place.{JobOut}

-- what a job carries
abbrev pub job_out : JobState ReplaySpawner → JobOut
job_out j = record { target = j.target; number = j.number; not_started = j.not_started }

-- The script of a unit is taken out where none of it is out and one waits.
abbrev pub TakesUnitJob : (unit : ℕ) → (was now : Option JobOut) → (old new : TableState ReplaySpawner) → Type 0
TakesUnitJob unit (Some j) now old new = (now ≡ Some j) × (new ≡ old)
TakesUnitJob unit None now old new = (job : Option (JobState ReplaySpawner)) × TakesJobOf unit job old new × (now ≡ option_map job_out job)

-- the script that is out, where it has this number
abbrev pub numbered : ℕ → Option JobOut → Option JobOut
numbered number None = None
numbered number (Some j) = if j.number == number then Some j else None

-- A script that was out has ended so.
pub record IsDoneOf {S : Type 0} (j : JobOut) (answer : ScriptEnd) (done : DoneState S) : Type 0 where
  pub target : done.target ≡ j.target
  pub number : done.number ≡ j.number
  pub not_started : done.not_started ≡ j.not_started
  pub answer_is : done.answer ≡ answer
