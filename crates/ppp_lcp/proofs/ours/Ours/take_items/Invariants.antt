use Rattle.std.proofs.Common.{length, ◌≡◌}
use Rattle.ppp_lcp.specs.Taking.{nak_items}
use Rattle.ppp_lcp.proofs.ours.Ours.take_items.Given as goal

abbrev pub invariant-taking : goal.invariant-taking
invariant-taking l = nak_items l.wish l.self l.walk ≡ nak_items l.wish l.initial.self l.items

abbrev pub decreases-taking : goal.decreases-taking
decreases-taking l = length l.walk
