use Rattle.std.proofs.Common.{length}
use Rattle.ppp_replay.proofs.made.Summary.count_given.Given as goal

abbrev pub decreases-given : goal.decreases-given
decreases-given l = length l.world.given
