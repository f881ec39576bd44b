use Rattle.std.proofs.Common.{◌≡◌, ◌≤◌, nat_lt, false, is_some, ap, sym, ◌∙◌, arith}
use Rattle.std.proofs.lemmas.Bool.Decides.{nat_tests}
use Rattle.ppp_mp.specs.Places.{PlacesNow}
use Rattle.ppp_mp.proofs.WindowLemmas.{past_none}
use Rattle.ppp_mp.proofs.places.Places.waits.Goals as goal

pub returns-else-i-lt-PLACES-clause-waits : goal.returns-else-i-lt-PLACES-clause-waits
returns-else-i-lt-PLACES-clause-waits c =
    let out : 128 ≤ c.args.i = c.if-i-lt-PLACES.false in
    let f : nat_lt c.args.i 128 ≡ false = grind (arith, nat_tests) in
    f ∙ sym (ap is_some (past_none c.self.inside.base c.self.inside.slots.slots c.args.self.now.pieces (ap (λ (p : PlacesNow). p.pieces) c.self.view_is) c.args.i out))
