use Rattle.std.proofs.Common.{length}
use Rattle.ppp_replay.proofs.full.put_all_given.Given as goal

abbrev pub decreases-given : goal.decreases-given
decreases-given g l = length l.world.given
