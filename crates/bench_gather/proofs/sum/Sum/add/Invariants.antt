use Rattle.std.proofs.Common.{length}
use Rattle.bench_gather.proofs.sum.Sum.add.Given as goal

abbrev pub decreases-eights : goal.decreases-eights
decreases-eights l = length l.left
