-- What contracts see of a bare automaton whose jobs are out.
use Rattle.std.specs.Prelude.{ℕ, ◌<◌, ◌≤◌, ◌≡◌, Option, None, Some, IsSome}
use Rattle.ppp_hooks.specs.HookPast.{ends_in, not_started_in, starts_in}
use Rattle.ppp_hooks.specs.HookState.{JobState}
use Rattle.ppp_mark.specs.ScriptLog.{ScriptLogState}
use Rattle.ppp_mark.specs.Scripts.{said_in}
use Rattle.ppp_replay.specs.BareRun.{BareRun}

-- the run so far, and how many marks its log has
pub record PlayerState : Type 0 where
  pub run : BareRun
  pub marks : ℕ

-- The job that runs is out with the spawner, and where none is out none runs. The scripts are those of unit 0.
abbrev pub IsOut : {S : Type 0} → ScriptLogState S → Option (JobState S) → Type 0
IsOut scripts None = IsSome scripts.machine.spawner × (starts_in (said_in scripts.log.past) ≤ ends_in (said_in scripts.log.past))
IsOut scripts (Some job) =
    (scripts.machine.spawner ≡ None) × (ends_in (said_in scripts.log.past) < starts_in (said_in scripts.log.past)) × (job.target ≡ scripts.machine.target)
    × (job.number ≡ starts_in (said_in scripts.log.past)) × (job.not_started ≡ not_started_in (said_in scripts.log.past))
