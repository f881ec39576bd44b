use Rattle.ppp_bundle.proofs.ReadyFacts.{Uses}
use Rattle.ppp_bundle.proofs.unit_state.UnitCore.use_all.Given as goal

abbrev pub invariant-using : goal.invariant-using
invariant-using g l = Uses l.secrets l.at l.count l.packets l.fn.self l.self
