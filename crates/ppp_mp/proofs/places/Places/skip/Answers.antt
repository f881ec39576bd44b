use Rattle.std.proofs.Common.{ap}
use Rattle.ppp_mp.specs.Places.{PlacesNow}
use Rattle.ppp_mp.proofs.WindowLemmas.{skip_window}
use Rattle.ppp_mp.proofs.places.Places.skip.Goals as goal

pub invariant_of-self : goal.invariant_of-self
invariant_of-self c =
    skip_window c.self.inside.base c.self.inside.gap c.self.inside.end c.args.to c.self.inside.slots.slots c.args.self.now.pieces c.self.invariant (ap (λ (p : PlacesNow). p.pieces) c.self.view_is) c.requires.within c.requires.none
