use Rattle.std.proofs.Common.{◌≡◌, length}
use Rattle.std.specs.Option.{option_copied, option_or}
use Rattle.ppp_options.specs.Last.{last_of}
use Rattle.ppp_option_words.specs.Picks.{endpoint_in}
use Rattle.ppp_options.proofs.last.last_endpoint.Given as goal

abbrev pub invariant-looking : goal.invariant-looking
invariant-looking l = option_or (last_of endpoint_in l.left) (option_copied l.found) ≡ option_or (last_of endpoint_in l.initial.left) (option_copied l.initial.found)

abbrev pub decreases-looking : goal.decreases-looking
decreases-looking l = length l.left
