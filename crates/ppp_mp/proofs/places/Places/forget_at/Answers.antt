use Rattle.std.proofs.Common.{None, ap}
use Rattle.ppp_mp.specs.Places.{PlacesNow}
use Rattle.ppp_mp.proofs.WindowLemmas.{changed_places}
use Rattle.ppp_mp.proofs.places.Places.forget_at.Goals as goal

pub returns-clause-pieces : goal.returns-clause-pieces
returns-clause-pieces c =
    changed_places c.self.inside.base c.args.i c.number_after.result None c.self.inside.slots.slots c.forget.new.self.slots c.args.self.now.pieces c.self.invariant.based c.requires c.number_after.ensures.is
    (ap (λ (p : PlacesNow). p.pieces) c.self.view_is) c.forget.ensures.kept
