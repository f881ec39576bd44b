use Rattle.std.proofs.Common.{length}
use Rattle.ppp_replay.proofs.full.put_marks.Given as goal

abbrev pub decreases-marks : goal.decreases-marks
decreases-marks g l = l.world.fresh
