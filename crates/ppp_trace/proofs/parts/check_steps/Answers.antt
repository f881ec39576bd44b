use Rattle.std.proofs.Common.{◌∙◌, ◌+◌, ap, min}
use Rattle.ppp_trace.proofs.PartLemmas.{one_too_many, steps_more, wrong_step}
use Rattle.ppp_trace.proofs.parts.check_steps.Goals as goal

pub returns-in_default : goal.returns-in_default
returns-in_default c = λ small.
    wrong_step c.args.links c.args.line c.args.text.now c.lines.rest.now c.first_line.result.1.now c.first_line.result.0.now c.lines.count c.saturating_add-at.result c.bad_at.result small
    c.lines.invariant c.first_line.ensures.lines c.in_default.ensures
    (c.saturating_add-at.ensures ∙ ap (λ first. min (first + c.lines.count) 18446744073709551615) c.saturating_add.ensures) c.bad_at.ensures

pub returns-then-count-ge-MOST_FULL_STEPS : goal.returns-then-count-ge-MOST_FULL_STEPS
returns-then-count-ge-MOST_FULL_STEPS c = λ small.
    one_too_many c.args.links c.args.line c.args.text.now c.lines.rest.now c.first_line.result.1.now c.first_line.result.0.now c.lines.count c.saturating_add-at.result c.in-Some._step
    c.bad_at-then-count-ge-MOST_FULL_STEPS.result small c.lines.invariant c.first_line.ensures.lines c.in-Some.ensures c.if-count-ge-MOST_FULL_STEPS.true
    (c.saturating_add-at.ensures ∙ ap (λ first. min (first + c.lines.count) 18446744073709551615) c.saturating_add.ensures) c.bad_at-then-count-ge-MOST_FULL_STEPS.ensures

pub lines-preserved : goal.lines-preserved
lines-preserved c =
    steps_more c.args.links c.args.text.now c.lines.rest.now c.first_line.result.1.now c.first_line.result.0.now c.lines.count c.in-Some._step c.lines.invariant c.first_line.ensures.lines
    c.in-Some.ensures c.if-count-ge-MOST_FULL_STEPS.false
