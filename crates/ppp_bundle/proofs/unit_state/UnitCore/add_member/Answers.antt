use Rattle.std.proofs.Common.{rules}
use Rattle.ppp_bundle.proofs.MemberSteps.{agrees_with_some}
use Rattle.ppp_bundle.proofs.unit_state.UnitCore.add_member.Goals as goal

pub returns-clause-agrees : goal.returns-clause-agrees
returns-clause-agrees g c =
    agrees_with_some c.args.link c.args.stay c.args.mru c.in-Some.live c.args.self.now _ (search rules) c.requires.may c.number-number.ensures.range.0 c.number-number.ensures.range.1 c.requires.agrees (search rules)
