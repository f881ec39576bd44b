use Rattle.std.proofs.Common.{◌≡◌, length}
use Rattle.std.specs.Option.{option_or}
use Rattle.ppp_options.specs.Last.{last_of}
use Rattle.ppp_option_words.specs.Picks.{switch_in}
use Rattle.ppp_options.proofs.last.last_switch.Given as goal

abbrev pub invariant-looking : goal.invariant-looking
invariant-looking l = option_or (last_of (switch_in l.on l.off) l.left) l.found ≡ option_or (last_of (switch_in l.on l.off) l.initial.left) l.initial.found

abbrev pub decreases-looking : goal.decreases-looking
decreases-looking l = length l.left
