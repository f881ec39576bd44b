use Rattle.std.proofs.Common.{option_map, ap, sym, ◌∙◌}
use Rattle.ppp_mp.specs.Places.{PlacesNow}
use Rattle.ppp_mp.specs.Ring.{view_of}
use Rattle.ppp_mp.proofs.WindowLemmas.{place_kept}
use Rattle.ppp_mp.proofs.places.Places.at.Goals as goal

pub returns-clause-view : goal.returns-clause-view
returns-clause-view c =
    c.at.ensures.view ∙ ap (option_map view_of) (sym (place_kept c.self.inside.base c.args.i c.number_after.result c.self.inside.slots.slots c.args.self.now.pieces (ap (λ (p : PlacesNow). p.pieces) c.self.view_is) c.requires c.number_after.ensures.is))
