use Rattle.std.proofs.Common.{◌≡◌, ◌<◌, ◌+◌, ◌++◌, [], drop, get_or, length, sym, ◌∙◌, ap, append_assoc, append-nil, arith}
use Rattle.std.proofs.lemmas.List.{drop_all, drop_more}
use Rattle.ppp_fsm.specs.declared.event.FsmEvent.TheVariants.{Up}
use Rattle.ppp_outside.proofs.PutLemmas.{puts_then, all_put}
use Rattle.ppp_replay.specs.BareRun.{after_step, run_start}
use Rattle.ppp_replay.specs.BareText.{line_of, lines_from, bare_text}
use Rattle.ppp_trace.specs.declared.step.BareStep.TheVariants.{Event}
use Rattle.ppp_replay.proofs.text.put_text.Goals as goal

pub loop-step-preserved : goal.loop-step-preserved
loop-step-preserved g c =
    let steps = c.args.steps.now in
    let i = c.loop-step.step-index in
    let number = c.loop-step.number + 1 in
    let run = c.loop-step.player.run in
    let step = get_or steps i (Event Up) in
    let made = line_of number run step in
    let front = c.loop-step.invariant.put.0 in
    let below : i < length steps = omega arith in
    record {
      counted = omega arith;
      few = omega arith;
      put = (
        front ++ made,
        puts_then c.loop-step.invariant.put.1 c.put_line.ensures.put,
        rw c.put_line.ensures.run (
            append_assoc front made (lines_from (number + 1) (after_step run step) (drop (i + 1) steps))
            ∙ ap (λ more. front ++ lines_from number run more) (sym (drop_more steps i (Event Up) below))
            ∙ c.loop-step.invariant.put.2),
      );
    }

pub returns : goal.returns
unfolding bare_text
returns g c =
    let steps = c.args.steps.now in
    let front = c.loop-step.invariant.put.0 in
    let none : drop c.loop-step.step-index steps ≡ [] = drop_all c.loop-step.step-index steps (omega arith) in
    let whole : front ≡ lines_from 1 run_start steps =
    sym (append-nil front)
    ∙ ap (λ more. front ++ lines_from (c.loop-step.number + 1) c.loop-step.player.run more) (sym none)
    ∙ c.loop-step.invariant.put.2 in
    let put = rw (append-nil, whole) at (puts_then c.loop-step.invariant.put.1 c.finish.ensures) in
    let all = all_put c.finish.result _ _ _ put in
    record { whole = all.0; part = all.1 }
