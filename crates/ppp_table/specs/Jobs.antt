-- The jobs that are taken out of a table.
use Rattle.std.specs.Prelude.{ℕ, ◌≡◌, ◌<◌, ◌↔◌, Option, None, Some, IsSome, IfSome, IfNone, OnSome, List, slice_get, slice_set}
use Rattle.ppp_hooks.specs.HookPast.{ends_in, not_started_in, starts_in}
use Rattle.ppp_hooks.specs.HookState.{JobState}
use Rattle.ppp_hooks.specs.HookWords.{words_of_start}
use Rattle.ppp_mark.specs.Scripts.{said_in}
use Rattle.ppp_bundle.specs.State.{UnitState}
use Rattle.ppp_table.specs.TableState.{TableState}

-- The script that a unit started, with its spawner, if its job hasn't been taken.
pub record TakesJob {S : Type 0} (job : Option (JobState S)) (was now : UnitState S) : Type 0 where
  pub some : IsSome job ↔ (IsSome was.scripts.machine.spawner × (ends_in (said_in was.scripts.log.past) < starts_in (said_in was.scripts.log.past)))
  pub is : IfSome job (λ j. (j.target ≡ was.scripts.machine.target) × (j.number ≡ starts_in (said_in was.scripts.log.past)) × (j.not_started ≡ not_started_in (said_in was.scripts.log.past)))
  pub words : IfSome job (λ j. words_of_start was.scripts.machine.target was.scripts.machine.facts.last ≡ Some j.words)
  pub spawner : IfSome job (λ j. was.scripts.machine.spawner ≡ Some j.spawner)
  pub taken : OnSome job (now ≡ record was { scripts = record was.scripts { machine = record was.scripts.machine { spawner = None } } })
  pub none : IfNone job (now ≡ was)

-- of one of the units; all else stays as it is
pub record TakesJobOf {S : Type 0} (unit : ℕ) (job : Option (JobState S)) (old new : TableState S) : Type 0 where
  pub was : UnitState S
  pub now : UnitState S
  pub there : slice_get old.units unit ≡ Some was
  pub takes : TakesJob job was now
  pub after : new ≡ record old { units = slice_set old.units unit now }
