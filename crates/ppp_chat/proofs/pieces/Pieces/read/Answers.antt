use Rattle.ppp_chat.specs.Pieces.{unquoted}
use Rattle.ppp_chat.proofs.Reading.{read_more}
use Rattle.ppp_chat.proofs.pieces.Pieces.read.Goals as goal

pub reading-preserved : goal.reading-preserved
reading-preserved c =
    rw c.in_ok-push.ensures.items
    (read_more (unquoted c.args.part.now) c.reading.left.now c.reading.pieces.items c.in-Some.piece c.in-Some.behind.now
    c.reading.invariant c.in-len1-up.len_at_least c.in-Some.ensures.read)
