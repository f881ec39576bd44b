use Rattle.std.proofs.Common.{rules}
use Rattle.ppp_bundle.proofs.MemberSteps.{agrees_without}
use Rattle.ppp_bundle.proofs.unit_state.UnitCore.drop_member.Goals as goal

pub returns-clause-agrees : goal.returns-clause-agrees
returns-clause-agrees g c = agrees_without c.args.link c.args.stay c.in-Some.live c.args.self.now _ (search rules) c.requires.agrees (search rules)
