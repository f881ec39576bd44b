use Rattle.std.proofs.Common.{length}
use Rattle.ppp_replay.proofs.made.run_steps.Given as goal

abbrev pub decreases-steps : goal.decreases-steps
decreases-steps l = length l.rest
