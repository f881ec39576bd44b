use Rattle.ppp_chat.proofs.Obeyed.{obeyed_none}
use Rattle.ppp_chat.proofs.steps.Steps.new.Goals as goal

pub invariant_of-result : goal.invariant_of-result
invariant_of-result c = obeyed_none c.new.result.items c.new-2.result c.new.ensures.items c.new-2.ensures.none (c.new-2.ensures.settings c.new.result.items)
