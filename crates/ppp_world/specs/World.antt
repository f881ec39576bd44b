-- What contracts see of a world.
use Rattle.std.specs.Prelude.{ℕ, List}
use Rattle.ppp_outside.specs.declared.replay_spawner.ReplaySpawner.{ReplaySpawner}
use Rattle.ppp_outside.specs.declared.spawner.ScriptEnd.TheVariants.{Exit}
use Rattle.ppp_ring.specs.Pieces.{Piece}

-- how many of the last step's new marks, and which of its datagrams, weren't taken yet
pub record WorldState : Type 0 where
  pub fresh : ℕ
  pub given : List (Piece ℕ)

-- a spawner as it is made
abbrev pub new_spawner : ReplaySpawner
new_spawner = record { next = Exit 0; tries = 0; faults = 0 }
