use Rattle.std.proofs.Common.{◌∙◌}
use Rattle.ppp_carry.proofs.Carryings.{beside_next, given_one, left_next}
use Rattle.ppp_carry.proofs.carrying.carry_down.Goals as goal

pub giving-preserved : goal.giving-preserved
giving-preserved g c = record {
  rest = λ after all. c.giving.invariant.rest after (given_one g.E.Ends.is_present g.E.Ends.Takes c.in-Some.post _ _ c.giving.link c.give_one.new.link after c.in-Some.ensures.waits c.give_one.ensures.given all);
  left = left_next c.id-number.result c.giving.table c.take_post.new.self c.take_post.ensures.there c.take_post.ensures.new ∙ c.giving.invariant.left;
  beside = beside_next c.args.table.now c.giving.table c.take_post.new.self _ c.giving.invariant.beside c.take_post.ensures.new;
  same = c.give_one.ensures.same ∙ c.giving.invariant.same;
  id = c.giving.invariant.id;
}
