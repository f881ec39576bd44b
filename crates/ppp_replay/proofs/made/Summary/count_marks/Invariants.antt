use Rattle.std.proofs.Common.{length}
use Rattle.ppp_replay.proofs.made.Summary.count_marks.Given as goal

abbrev pub decreases-marks : goal.decreases-marks
decreases-marks l = l.world.fresh
