use Rattle.ppp_dial.proofs.Standing.{stands_after}
use Rattle.ppp_dial.proofs.dial.Dial.tell.Goals as goal

pub returns-clause-stands : goal.returns-clause-stands
returns-clause-stands c before calls h =
    stands_after before c.args.self.now calls _ _ _ _ _ _ _ c.requires c.answer_to-answer.ensures.answer
    c.stage_after-stage.ensures c.failures_with-failures.ensures c.is_stopped_with-stopped.ensures h
