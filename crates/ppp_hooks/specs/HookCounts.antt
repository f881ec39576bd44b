-- What a spawner's counts say of the scripts that a machine started.
use Rattle.std.specs.Prelude.{ℕ, ◌+◌, ◌-◌, ◌^◌, ◌<◌, ◌≤◌, ◌≡◌, IfSome}
use Rattle.ppp_hooks.specs.HookPast.{not_started_by}
use Rattle.ppp_hooks.specs.HookState.{HookState, JobState, DoneState}

-- A spawner was handed in with these counts. Since then it was tried so often, and at least so many scripts were not started.
pub record CountsFrom (tries_then faults_then : ℕ) (tries_now faults_now : ℕ) (runs not_started : ℕ) : Type 0 where
  pub few_tries : tries_then < 2 ^ 63
  pub few_faults : faults_then < 2 ^ 63
  pub tries : tries_now ≡ tries_then + runs
  pub faults : faults_then + not_started ≤ faults_now

-- In what follows t and f are the counts with which a spawner was handed in. They travel with it.
module _ {S : Type 0} (tries faults : S → ℕ) where
  -- a spawner in its machine was tried once for each end
  abbrev pub MachineCounts : ℕ → ℕ → HookState S → Type 0
  MachineCounts t f m = IfSome m.spawner (λ s. CountsFrom t f (tries s) (faults s) m.facts.ends m.facts.not_started)

  -- a spawner in a job was tried once for each job before it
  abbrev pub JobCounts : ℕ → ℕ → JobState S → Type 0
  JobCounts t f job = (0 < job.number) × CountsFrom t f (tries job.spawner) (faults job.spawner) (job.number - 1) job.not_started

  -- and behind it once more
  abbrev pub DoneCounts : ℕ → ℕ → DoneState S → Type 0
  DoneCounts t f done = CountsFrom t f (tries done.spawner) (faults done.spawner) done.number (done.not_started + not_started_by done.answer)
