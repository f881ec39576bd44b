use Rattle.std.proofs.Common.{Some, ap, sym, ◌∙◌}
use Rattle.ppp_mp.specs.Places.{PlacesNow}
use Rattle.ppp_mp.specs.Ring.{slot_piece}
use Rattle.ppp_mp.proofs.WindowLemmas.{place_kept, changed_places}
use Rattle.ppp_mp.proofs.places.Places.put.Goals as goal

pub put_octets-requires-clause-new : goal.put_octets-requires-clause-new
put_octets-requires-clause-new c =
    sym (place_kept c.self.inside.base c.args.i c.number_after.result c.self.inside.slots.slots c.args.self.now.pieces (ap (λ (p : PlacesNow). p.pieces) c.self.view_is) c.requires.within c.number_after.ensures.is) ∙ c.requires.none

pub returns-clause-pieces : goal.returns-clause-pieces
returns-clause-pieces c =
    changed_places c.self.inside.base c.args.i c.number_after.result (Some (slot_piece c.args.first c.args.last c.args.octets.now)) c.self.inside.slots.slots c.put_octets.new.self.slots c.args.self.now.pieces c.self.invariant.based c.requires.within c.number_after.ensures.is
    (ap (λ (p : PlacesNow). p.pieces) c.self.view_is) c.put_octets.ensures.kept
