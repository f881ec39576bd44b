use Rattle.std.proofs.Common.{◌≡◌}
use Rattle.ppp_world.proofs.world.World.find_mark.Given as goal

abbrev pub invariant-loop-object : goal.invariant-loop-object
invariant-loop-object l = (l.self.fresh ≡ l.fn.self.fresh) × (l.self.given ≡ l.fn.self.given)
