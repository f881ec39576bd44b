use Rattle.std.proofs.Common.{◌≡◌, length}
use Rattle.std.specs.List.{slice_split}
use Rattle.ppp_chat.specs.Words.{all_pieces, is_hyphen}
use Rattle.ppp_chat.proofs.PartsRead.{before_parts}
use Rattle.ppp_chat.proofs.parts.Parts.read.Given as goal

abbrev pub invariant-parts : goal.invariant-parts
invariant-parts l = all_pieces (slice_split is_hyphen l.word) ≡ before_parts l.parts.items (all_pieces (slice_split is_hyphen l.left))

abbrev pub decreases-parts : goal.decreases-parts
decreases-parts l = length l.left
