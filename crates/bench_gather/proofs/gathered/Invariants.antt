use Rattle.std.proofs.Common.{length}
use Rattle.bench_gather.proofs.gathered.Given as goal

abbrev pub decreases-reading : goal.decreases-reading
decreases-reading l = length l.left
