use Rattle.std.proofs.Common.{Some, cond, nat_eq, ap, ◌∙◌}
use Rattle.ppp_mp.specs.Ring.{kept_at}
use Rattle.ppp_mp.specs.declared.slot_piece.SlotPiece.{SlotPiece}
use Rattle.ppp_mp.proofs.RingLemmas.{piece_is}
use Rattle.ppp_mp.proofs.slots.Slots.put.Goals as goal

pub returns-clause-kept : goal.returns-clause-kept
returns-clause-kept c = λ other.
    c.put_octets.ensures.kept other
    ∙ ap (λ (p : SlotPiece). cond (nat_eq other c.args.number) (Some p) (kept_at other c.args.self.now.slots)) (piece_is c.args.piece c.as_slice.result.now c.as_slice.ensures.octets)
