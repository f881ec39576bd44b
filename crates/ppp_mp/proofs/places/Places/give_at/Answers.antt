use Rattle.std.proofs.Common.{◌≡◌, ◌⊎◌, ◌+◌, ◌<◌, ◌++◌, Option, None, false, length, ap, sym, subst, ◌∙◌}
use Rattle.ppp_mp.specs.Places.{PlacesNow, place}
use Rattle.ppp_mp.specs.Ring.{kept_at, octets_there}
use Rattle.ppp_mp.specs.declared.slot_piece.SlotPiece.{SlotPiece}
use Rattle.ppp_mp.proofs.WindowLemmas.{place_kept, changed_places}
use Rattle.ppp_mp.proofs.places.Places.give_at.Goals as goal

pub returns-clause-joined : goal.returns-clause-joined
returns-clause-joined c = λ fits.
    let h = c.give.ensures.joined fits in
    let at : kept_at c.number_after.result c.self.inside.slots.slots ≡ place c.args.self.now.pieces c.args.i = sym (place_kept c.self.inside.base c.args.i c.number_after.result c.self.inside.slots.slots c.args.self.now.pieces (ap (λ (p : PlacesNow). p.pieces) c.self.view_is) c.requires.i c.number_after.ensures.is) in
    (h.0, h.1 ∙ ap (λ (o : Option SlotPiece). c.args.packet.now ++ octets_there o) at)

pub returns-clause-too_long : goal.returns-clause-too_long
returns-clause-too_long c = λ much.
    let at : kept_at c.number_after.result c.self.inside.slots.slots ≡ place c.args.self.now.pieces c.args.i = sym (place_kept c.self.inside.base c.args.i c.number_after.result c.self.inside.slots.slots c.args.self.now.pieces (ap (λ (p : PlacesNow). p.pieces) c.self.view_is) c.requires.i c.number_after.ensures.is) in
    subst (λ (o : Option SlotPiece). (c.args.fits ≡ false) ⊎ (c.args.limit < length c.args.packet.now + length (octets_there o))) at (c.give.ensures.too_long much)

pub returns-clause-pieces : goal.returns-clause-pieces
returns-clause-pieces c =
    changed_places c.self.inside.base c.args.i c.number_after.result None c.self.inside.slots.slots c.give.new.self.slots c.args.self.now.pieces c.self.invariant.based c.requires.i c.number_after.ensures.is
    (ap (λ (p : PlacesNow). p.pieces) c.self.view_is) c.give.ensures.kept
