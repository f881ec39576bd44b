use Rattle.std.proofs.Common.{ap, ◌∙◌, ◌==◌, ℕ, sym}
use Rattle.ppp_ring.proofs.PieceLemmas.{as_many_wait}
use Rattle.ppp_ring.proofs.pieces.PieceRing.is_empty.Goals as goal

pub returns : goal.returns
returns g c = rw (← c.self.view_is) (
    c.is_empty.ensures ∙ ap (λ (n : ℕ). n == 0) (sym (as_many_wait c.self.inside.heads.items c.self.inside.sizes.items c.self.inside.octets.items c.self.invariant.0.as_many)))
