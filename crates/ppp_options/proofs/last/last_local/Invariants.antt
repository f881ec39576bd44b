use Rattle.std.proofs.Common.{◌≡◌, length}
use Rattle.std.specs.Option.{option_or}
use Rattle.ppp_options.specs.Last.{last_of}
use Rattle.ppp_option_words.specs.Picks.{local_in}
use Rattle.ppp_options.proofs.last.last_local.Given as goal

abbrev pub invariant-looking : goal.invariant-looking
invariant-looking l = option_or (last_of local_in l.left) l.found ≡ option_or (last_of local_in l.initial.left) l.initial.found

abbrev pub decreases-looking : goal.decreases-looking
decreases-looking l = length l.left
