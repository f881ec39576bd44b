use Rattle.std.proofs.Common.{◌≡◌, length}
use Rattle.std.specs.Option.{option_copied, option_or}
use Rattle.ppp_options.specs.Last.{last_of}
use Rattle.ppp_option_words.specs.Picks.{text_in}
use Rattle.ppp_options.proofs.last.last_text.Given as goal

abbrev pub invariant-looking : goal.invariant-looking
invariant-looking l = option_or (last_of (text_in l.word) l.left) (option_copied l.found) ≡ option_or (last_of (text_in l.word) l.initial.left) (option_copied l.initial.found)

abbrev pub decreases-looking : goal.decreases-looking
decreases-looking l = length l.left
