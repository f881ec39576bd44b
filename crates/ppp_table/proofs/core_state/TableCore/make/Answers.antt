use Rattle.std.proofs.Common.{ap}
use Rattle.ppp_table_parts.specs.Key.{Terms}
use Rattle.ppp_table.proofs.Comings.{whole_make}
use Rattle.ppp_table.proofs.core_state.TableCore.make.Goals as goal

pub returns-clause-whole : goal.returns-clause-whole
returns-clause-whole g c = whole_make c.args.unit _ c.args.link c.args.link c.args.stay c.args.mru c.args.wish _ c.args.terms c.args.allow _ c.args.self.now c.unit_takes.new.self c.unit_takes-2.new.self _
    (ap (λ (t : Terms). t.mrru) c.terms.view_is) c.self.view_is c.set_terms.ensures.new c.set_terms.ensures.there c.unit_takes.ensures.step c.unit_takes-2.ensures.step
    c.unit_takes-2.ensures.sixteen c.unit_takes-2.ensures.drained c.requires.whole c.requires.none c.requires.told
