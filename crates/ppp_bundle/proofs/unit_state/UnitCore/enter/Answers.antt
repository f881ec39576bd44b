use Rattle.std.proofs.Common.{ap, sym, ◌∙◌}
use Rattle.ppp_unit_parts.specs.declared.live.IpCall.TheVariants.{ComesUp}
use Rattle.ppp_bundle.specs.IpCalls.{called}
use Rattle.ppp_bundle.specs.State.{UnitState}
use Rattle.ppp_bundle.proofs.MemberSteps.{enters_first, enters_more}
use Rattle.ppp_bundle.proofs.unit_state.UnitCore.enter.Goals as goal

pub returns-then-is_first-clause-new : goal.returns-then-is_first-clause-new
returns-then-is_first-clause-new g c =
    enters_first c.args.secrets.now c.args.link c.args.stay c.args.mru c.args.self.now c.add_member-is_first.new.self c.call-then-is_first.new.self c.requires.may
    (sym c.add_member-is_first.ensures.first ∙ c.if-is_first.true) c.add_member-is_first.ensures.new
    (c.call-then-is_first.ensures.new ∙ ap (λ (u : UnitState _). called c.args.secrets.now ComesUp u) c.call.ensures.new)

pub returns-else-is_first-clause-new : goal.returns-else-is_first-clause-new
returns-else-is_first-clause-new g c =
    enters_more c.args.secrets.now c.args.link c.args.stay c.args.mru c.args.self.now c.add_member-is_first.new.self c.requires.may
    (sym c.add_member-is_first.ensures.first ∙ c.if-is_first.false) c.add_member-is_first.ensures.new
