use Rattle.std.proofs.Common.{arith}
use Rattle.std.proofs.lemmas.Grind.{common_steps}
use Rattle.ppp_chat.proofs.Obeyed.{kept_below}
use Rattle.ppp_chat.proofs.directives.Directives.clear_abort.Goals as goal
use Rattle.ppp_chat.proofs.directives.Directives.clear_abort.Goals.{then-ne, else-ne}

pub loop-place-preserved : goal.loop-place-preserved
loop-place-preserved c = record {
  kept = grind (arith, common_steps);
  below =
      elim c.if-ne.branch [
        | then-ne w ↦ λ end below. rw (w.kept-is, w.push.ensures.items)
            (kept_below end c.as_slice-place-items.result.now c.loop-place.kept.items c.loop-place.place-index (c.loop-place.invariant.below end) c.loop-place-test.true below)
        | else-ne w ↦ λ end below. rw w.kept-is (c.loop-place.invariant.below end below)
      ];
  few = grind (arith, common_steps);
}

pub returns-clause-below : goal.returns-clause-below
returns-clause-below c end below = c.loop-place.invariant.below end (rw c.as_slice-place-items.ensures.value below)
