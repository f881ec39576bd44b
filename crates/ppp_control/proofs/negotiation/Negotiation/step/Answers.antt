-- The acts are done one by one.
use Rattle.std.proofs.Common.{List, length, ◌≤◌, ap, sym, ◌∙◌, arith, subst}
use Rattle.ppp_fsm.specs.declared.acts.Act.{Act}
use Rattle.ppp_control.specs.Given.{given}
use Rattle.ppp_control.proofs.ActingLemmas.{acting_none, acting_more, acted_leaves}
use Rattle.ppp_control.proofs.TableLemmas.{few_acts}
use Rattle.ppp_control.proofs.negotiation.Negotiation.step.Goals as goal

pub acting-init : goal.acting-init
acting-init c = acting_none _ _ _ _ c.new-packets.ensures (subst (λ (x : List Act). length x ≤ 3) (sym (c.as_slice-list.ensures ∙ c.apply-acts.ensures.acts)) (few_acts c.args.self.now.fsm c.args.event))

pub acting-preserved : goal.acting-preserved
acting-preserved c = acting_more _ _ _ _ _ _ _ _ _ _ c.acting-test.true c.act-sent.ensures.new c.act-sent.ensures.sent c.push_some.ensures c.acting.invariant

pub push_some-requires : goal.push_some-requires
push_some-requires c = omega (arith, c.acting.invariant.few, c.acting.invariant.acts_few)

pub returns-clause-new : goal.returns-clause-new
returns-clause-new c =
    let ends = acted_leaves (given c.args.parts.now) c.args.event c.args.self.now _ _ _ c.acting.self c.acting.packets c.acting.act-index (ap (λ x. record c.args.self.now { fsm = x }) c.apply-acts.ensures.after) c.as_slice-list.ensures c.apply-acts.ensures.acts c.acting-test.false c.acting.invariant in
    c.stop_timer.ensures ∙ ends.0

pub returns-clause-packets : goal.returns-clause-packets
returns-clause-packets c =
    let ends = acted_leaves (given c.args.parts.now) c.args.event c.args.self.now _ _ _ c.acting.self c.acting.packets c.acting.act-index (ap (λ x. record c.args.self.now { fsm = x }) c.apply-acts.ensures.after) c.as_slice-list.ensures c.apply-acts.ensures.acts c.acting-test.false c.acting.invariant in
    ends.1
