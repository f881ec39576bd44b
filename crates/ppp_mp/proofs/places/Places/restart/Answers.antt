use Rattle.std.proofs.Common.{◌≡◌, ◌+◌, ◌<◌, ℕ, None, ap, ◌∙◌, arith}
use Rattle.ppp_mp.specs.Header.{long_space}
use Rattle.ppp_mp.specs.Ring.{SlotsNow, kept_at}
use Rattle.ppp_mp.specs.Places.{PlacesNow, place}
use Rattle.ppp_mp.proofs.WindowLemmas.{past_none, nothing_kept, empty_window, empty_places}
use Rattle.ppp_mp.proofs.places.Places.restart.Goals as goal

pub invariant_of-self : goal.invariant_of-self
invariant_of-self c =
    let empty : (j : ℕ) → place c.lose.new.self.pieces j ≡ None = λ j. c.lose.ensures.pieces j ∙ past_none c.self.inside.base c.self.inside.slots.slots c.args.self.now.pieces (ap (λ (p : PlacesNow). p.pieces) c.self.view_is) (j + 128) (omega arith) in
    let none : (n : ℕ) → n < long_space → kept_at n c.reset.new.self.slots ≡ None = λ n within.
    ap (λ (s : SlotsNow). kept_at n s.slots) c.reset.ensures
    ∙ nothing_kept c.self-2.inside.base c.self-2.inside.gap c.self-2.inside.end n c.self-2.inside.slots.slots c.lose.new.self.pieces c.self-2.invariant (ap (λ (p : PlacesNow). p.pieces) c.self-2.view_is) empty within in
    empty_window c.reset.new.self.slots none

pub returns-clause-pieces : goal.returns-clause-pieces
returns-clause-pieces c =
    let empty : (j : ℕ) → place c.lose.new.self.pieces j ≡ None = λ j. c.lose.ensures.pieces j ∙ past_none c.self.inside.base c.self.inside.slots.slots c.args.self.now.pieces (ap (λ (p : PlacesNow). p.pieces) c.self.view_is) (j + 128) (omega arith) in
    let none : (n : ℕ) → n < long_space → kept_at n c.reset.new.self.slots ≡ None = λ n within.
    ap (λ (s : SlotsNow). kept_at n s.slots) c.reset.ensures
    ∙ nothing_kept c.self-2.inside.base c.self-2.inside.gap c.self-2.inside.end n c.self-2.inside.slots.slots c.lose.new.self.pieces c.self-2.invariant (ap (λ (p : PlacesNow). p.pieces) c.self-2.view_is) empty within in
    empty_places c.reset.new.self.slots none
