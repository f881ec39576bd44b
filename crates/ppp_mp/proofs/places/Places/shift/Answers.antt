use Rattle.std.proofs.Common.{ap}
use Rattle.ppp_mp.specs.Places.{PlacesNow}
use Rattle.ppp_mp.proofs.WindowLemmas.{narrow, shift_window, shift_places}
use Rattle.ppp_mp.proofs.places.Places.shift.Goals as goal

pub invariant_of-self : goal.invariant_of-self
invariant_of-self c =
    narrow c.number_after-self-inside.result c.saturating_sub.result c.saturating_sub-self-inside.result c.gap_before-self-inside.result c.self.inside.slots.slots
    (shift_window c.self.inside.base c.self.inside.gap c.self.inside.end c.args.count c.number_after-self-inside.result c.saturating_sub.result c.saturating_sub-self-inside.result c.self.inside.slots.slots c.args.self.now.pieces
    c.self.invariant (ap (λ (p : PlacesNow). p.pieces) c.self.view_is) c.requires c.number_after-self-inside.ensures.is c.saturating_sub.ensures c.saturating_sub-self-inside.ensures)
    c.gap_before-self-inside.ensures

pub returns-clause-pieces : goal.returns-clause-pieces
returns-clause-pieces c =
    shift_places c.self.inside.base c.self.inside.gap c.self.inside.end c.args.count c.number_after-self-inside.result c.self.inside.slots.slots c.args.self.now.pieces
    c.self.invariant (ap (λ (p : PlacesNow). p.pieces) c.self.view_is) c.requires c.number_after-self-inside.ensures.is
