use Rattle.std.proofs.Common.{◌∙◌}
use Rattle.ppp_timer.specs.Due.{has_come, moment_of, slots}
use Rattle.ppp_timer.proofs.Slots.{find_first}
use Rattle.ppp_timer.proofs.deadlines.Deadlines.due.Goals as goal

pub returns : goal.returns
returns c = c.find_due.ensures ∙ find_first (λ slot. has_come c.args.now (moment_of c.args.self.now slot)) slots
