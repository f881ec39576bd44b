use Rattle.std.proofs.Common.{◌≡◌, ◌==◌, Some, None, cond, ap, ◌∙◌}
use Rattle.ppp_mp.specs.Places.{place}
use Rattle.ppp_mp.specs.Ring.{slot_piece}
use Rattle.ppp_mp.specs.declared.facts.GatherFacts.{GatherFacts}
use Rattle.ppp_mp.proofs.PlaceLemmas.{none_waits}
use Rattle.ppp_mp.proofs.facts.GatherFacts.keep.Goals as goal

pub returns-then-not-waits-clause-kept : goal.returns-then-not-waits-clause-kept
returns-then-not-waits-clause-kept c =
    let none : place c.args.self.now.places.pieces c.args.i ≡ None = none_waits (place c.args.self.now.places.pieces c.args.i) c.waits.result c.waits.ensures.waits c.if-not-waits.true in
    record {
      empty = λ _ j. c.put.ensures.pieces j ∙ ap (λ (g : GatherFacts). cond (j == c.args.i) (Some (slot_piece c.args.first c.args.last c.args.octets.now)) (place g.places.pieces j)) c.waits.ensures.same;
      taken = λ there. absurd (there none);
    }
