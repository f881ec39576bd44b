use Rattle.std.proofs.Common.{◌≡◌, ◌%◌, None, slice_index_or, ap, sym, ◌∙◌, arith}
use Rattle.std.proofs.lemmas.List.{get_or_read}
use Rattle.ppp_mp.specs.Ring.{SlotsNow, kept_at, kept_in}
use Rattle.ppp_mp.proofs.RingLemmas.{at_kept}
use Rattle.ppp_mp.proofs.slots.Slots.clear.Goals as goal

pub returns-clause-piece : goal.returns-clause-piece
returns-clause-piece c =
    let slot : c.index.result.now ≡ slice_index_or c.self.inside.slots.items (c.args.number % 128) None = get_or_read c.self.inside.slots.items _ _ (omega (arith, c.self.invariant.0)) c.index.ensures None in
    c.piece-piece.ensures
    ∙ ap (kept_in c.args.number) slot
    ∙ sym (at_kept c.args.number c.self.inside.slots.items c.self.invariant.0 c.self.invariant.1)
    ∙ ap (λ (s : SlotsNow). kept_at c.args.number s.slots) c.self.view_is
