use Rattle.std.proofs.Common.{◌∙◌, ap}
use Rattle.ppp_timer.specs.Due.{has_come}
use Rattle.ppp_timer.proofs.Slots.{due_among}
use Rattle.ppp_timer.proofs.deadlines.Deadlines.is_due.Goals as goal

pub returns-clause-among : goal.returns-clause-among
returns-clause-among c = due_among c.args.self.now c.args.now c.args.slot c.has_come.result (c.has_come.ensures ∙ ap (λ moment. has_come c.args.now moment) c.moment.ensures)
