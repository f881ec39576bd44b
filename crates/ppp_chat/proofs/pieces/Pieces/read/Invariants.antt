use Rattle.std.proofs.Common.{◌≡◌, length}
use Rattle.ppp_chat.specs.Pieces.{pieces_behind, unquoted}
use Rattle.ppp_chat.proofs.Reading.{before_all}
use Rattle.ppp_chat.proofs.pieces.Pieces.read.Given as goal

abbrev pub invariant-reading : goal.invariant-reading
invariant-reading l = pieces_behind 0 (unquoted l.part) ≡ before_all l.pieces.items (pieces_behind 0 l.left)

abbrev pub decreases-reading : goal.decreases-reading
decreases-reading l = length l.left
