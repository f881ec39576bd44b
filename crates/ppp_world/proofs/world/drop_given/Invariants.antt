use Rattle.std.proofs.Common.{length}
use Rattle.ppp_world.proofs.world.drop_given.Given as goal

abbrev pub decreases-dropping : goal.decreases-dropping
decreases-dropping l = length l.table.deliveries.waiting
