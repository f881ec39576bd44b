use Rattle.std.proofs.Common.{refl, sym, ◌∙◌}
use Rattle.ppp_mp.proofs.RingLemmas.{whole_piece}
use Rattle.ppp_mp.proofs.slot.Slot.piece.Goals as goal

pub returns : goal.returns
returns c = whole_piece c.args.number c.self.inside.number c.self.inside.first c.self.inside.last c.self.inside.kept c.self.inside.octets _ c.args.self.now refl refl c.copy.ensures c.self.view_is (sym c.keeps.ensures ∙ c.if-not-keeps.false)
