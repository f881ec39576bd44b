use Rattle.std.proofs.Common.{rules, ◌≡◌, ◌+◌, ◌<◌, ◌≤◌, ◌++◌, ◌∷◌, [], length, length-append, sym, subst, arith}
use Rattle.ppp_trace.specs.declared.TheConstants.{MOST_STEPS}
use Rattle.ppp_trace.specs.Reads.{Tells}
use Rattle.ppp_trace.proofs.TraceLemmas.{SoFar, fault_no_step, fault_too_many, no_octets, so_far_all, so_far_more}
use Rattle.ppp_trace.proofs.bare.steps.Goals as goal

pub returns-in_default : goal.returns-in_default
returns-in_default c =
    λ octets header.
    subst (Tells octets) (sym c.bad.ensures)
    (fault_no_step octets c.args.text.now c.lines.rest.now c.first_line.result.0.now c.first_line.result.1.now c.lines.steps.items c.lines.number
    header c.lines.invariant.2 c.first_line.ensures.lines c.lines.invariant.0 c.in_default.ensures)

pub returns-then-len-ge-MOST_STEPS : goal.returns-then-len-ge-MOST_STEPS
returns-then-len-ge-MOST_STEPS c =
    λ octets header.
    let many : MOST_STEPS ≤ length c.lines.steps.items = search rules in
    subst (Tells octets) (sym c.bad-then-len-ge-MOST_STEPS.ensures)
    (fault_too_many octets c.args.text.now c.lines.rest.now c.first_line.result.0.now c.first_line.result.1.now c.lines.steps.items c.in-Some.step c.lines.number
    header c.lines.invariant.2 c.first_line.ensures.lines c.lines.invariant.0 c.in-Some.ensures many)

pub lines-preserved : goal.lines-preserved
lines-preserved c =
    let items = c.lines.steps.items in
    let few : length items < MOST_STEPS = search rules in
    let pushed : c.push.new.self.items ≡ items ++ c.in-Some.step ∷ [] = search rules in
    subst (λ xs. (c.lines.number + 1 ≡ length xs + 2) × (c.lines.number + 1 ≤ 100002) × SoFar c.args.text.now c.first_line.result.1.now xs) (sym pushed) (
      omega (arith, c.lines.invariant.0, length-append items (c.in-Some.step ∷ [])),
      omega (arith, c.lines.invariant.0, few),
      so_far_more c.args.text.now c.lines.rest.now c.first_line.result.0.now c.first_line.result.1.now items c.in-Some.step c.lines.invariant.2 c.first_line.ensures.lines c.in-Some.ensures few,
    )

pub returns : goal.returns
returns c =
    λ octets header.
    let zero : length c.lines.rest.now ≡ 0 = search rules in
    so_far_all octets c.args.text.now c.lines.rest.now c.lines.steps.items header c.lines.invariant.2 (no_octets c.lines.rest.now zero)
