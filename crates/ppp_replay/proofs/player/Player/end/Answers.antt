use Rattle.std.proofs.Common.{◌≡◌, ◌∙◌, ap, sym, refl, true, false}
use Rattle.ppp_hooks.specs.HookPast.{starts_in}
use Rattle.ppp_replay.specs.BareRun.{after_step, runs_job}
use Rattle.ppp_mark.specs.Scripts.{said_in}
use Rattle.ppp_replay.proofs.PlayerLemmas.{run_is, not_true, not_false, when_ok, job_is}
use Rattle.ppp_replay.proofs.player.Player.end.Goals as goal

pub returns-then-ne-clause-run : goal.returns-then-ne-clause-run
unfolding after_step
returns-then-ne-clause-run c =
    let past = said_in c.self.inside.bare.scripts.log.past in
    let off : runs_job c.args.job past ≡ false = not_true _ (sym (rw c.running.ensures at c.ne.ensures) ∙ c.if-ne.true) in
    rw (← c.self.view_is) (rw off refl)

pub returns-clause-run : goal.returns-clause-run
unfolding after_step
returns-clause-run c =
    let past = said_in c.self.inside.bare.scripts.log.past in
    let differs = sym c.ne.ensures ∙ c.if-ne.false in
    let on : runs_job c.args.job past ≡ true = not_false _ (rw c.running.ensures at differs) in
    let starts = starts_in past in
    let job : starts ≡ c.args.job = job_is _ starts c.args.job (not_false _ (rw c.running.ensures at differs)) in
    let ok = sym c.if-prove.ensures.value in
    let answer : c.run.result.answer ≡ c.args.answer = c.run.ensures.as_told ∙ c.next_is.ensures.next in
    let number : c.run.result.number ≡ c.args.job = (c.ended-ended.ensures.ok.0 ok).number ∙ job in
    let ended = when_ok c.ended-ended.result _ ok c.ended-ended.ensures.said in
    let taken = c.take_job-self-inside.ensures in
    rw (← c.self.view_is) (rw on
    (run_is _ _ _ _ (taken.automaton ∙ c.ended-ended.ensures.automaton)
    (ap (λ log. said_in log.past) taken.log ∙ rw (answer, number) at ended)))
