use Rattle.std.proofs.Common.{◌≡◌, length, IfSome}
use Rattle.std.specs.Option.{option_or}
use Rattle.ppp_options.specs.Last.{last_of}
use Rattle.ppp_option_words.specs.Picks.{number_in}
use Rattle.ppp_option_words.specs.Table.{IsWithin}
use Rattle.ppp_options.proofs.last.last_number.Given as goal

abbrev pub invariant-looking : goal.invariant-looking
invariant-looking l = (option_or (last_of (number_in l.word) l.left) l.found ≡ option_or (last_of (number_in l.word) l.initial.left) l.initial.found) × IfSome l.found (IsWithin l.word)

abbrev pub decreases-looking : goal.decreases-looking
decreases-looking l = length l.left
