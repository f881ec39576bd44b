use Rattle.std.proofs.Common.{◌≡◌, replicate}
use Rattle.ppp_world.specs.World.{new_spawner}
use Rattle.ppp_world.proofs.world.spawners.Given as goal

abbrev pub invariant-loop-unit : goal.invariant-loop-unit
invariant-loop-unit l = l.spawners.items ≡ replicate l._unit new_spawner
