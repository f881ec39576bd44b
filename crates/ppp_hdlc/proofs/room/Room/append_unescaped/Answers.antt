use Rattle.std.proofs.Common.{ℕ, List, take, subst}
use Rattle.ppp_hdlc.specs.Deframing.{whole_part}
use Rattle.ppp_hdlc.specs.Spans.{Takes}
use Rattle.ppp_hdlc.proofs.room.Room.append_unescaped.Goals as goal

pub returns : goal.returns
returns c = λ is_over.
    subst (λ (l : List ℕ). Takes c.args.octets.now c.args.from c.unescape_runs-at.result.0 (whole_part c.args.map l is_over) (whole_part c.args.map (take c.unescape_runs-at.result.1 c.unescape_runs-at.new.out) is_over)) c.self.view_is
    (c.unescape_runs-at.ensures.takes is_over)
