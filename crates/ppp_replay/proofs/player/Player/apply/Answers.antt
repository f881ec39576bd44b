use Rattle.std.proofs.Common.{◌∙◌, ap}
use Rattle.ppp_replay.specs.BareRun.{after_step}
use Rattle.ppp_mark.specs.Scripts.{said_in}
use Rattle.ppp_replay.proofs.PlayerLemmas.{run_is}
use Rattle.ppp_replay.proofs.player.Player.apply.Goals as goal

pub returns-then-is_none-clause-run : goal.returns-then-is_none-clause-run
unfolding after_step
returns-then-is_none-clause-run c =
    let taken = c.take_job-self-inside.ensures in
    rw (← c.self.view_is)
    (run_is _ _ _ _ (taken.automaton ∙ c.apply-acts.ensures.automaton) (ap (λ log. said_in log.past) taken.log ∙ c.apply-acts.ensures.said))

pub returns-else-is_none-clause-run : goal.returns-else-is_none-clause-run
unfolding after_step
returns-else-is_none-clause-run c =
    rw (← c.self.view_is) (run_is _ _ _ _ c.apply-acts.ensures.automaton c.apply-acts.ensures.said)
