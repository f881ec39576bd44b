use Rattle.std.proofs.Common.{length}
use Rattle.ppp_replay.proofs.full.put_full.Given as goal

abbrev pub decreases-steps : goal.decreases-steps
decreases-steps g l = length l.rest
