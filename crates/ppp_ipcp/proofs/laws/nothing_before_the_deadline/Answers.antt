-- By the timer.
use Rattle.std.proofs.Common.{cond, Some, None, refl, ap}
use Rattle.ppp_fsm.specs.declared.event.FsmEvent.TheVariants.{Timeout}
use Rattle.ppp_ipcp.proofs.laws.nothing_before_the_deadline.Goals as goal

pub returns : goal.returns
returns c wish past now e = (ap (λ b. cond b (Some Timeout) None) e, refl)
