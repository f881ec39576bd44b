use Rattle.std.proofs.Common.{◌≡◌, None, length}
use Rattle.ppp_option_words.specs.Values.{pairs_behind, pairs_of}
use Rattle.ppp_option_words.proofs.PairLemmas.{before}
use Rattle.ppp_option_words.proofs.value.pairs.Given as goal

abbrev pub invariant-reading : goal.invariant-reading
invariant-reading l = before l.octets.items (pairs_behind None l.left) ≡ pairs_of l.digits

abbrev pub decreases-reading : goal.decreases-reading
decreases-reading l = length l.left
