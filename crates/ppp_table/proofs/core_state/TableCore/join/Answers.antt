use Rattle.ppp_table.proofs.Apart.{nowhere}
use Rattle.ppp_table.proofs.Comings.{whole_join}
use Rattle.ppp_table.proofs.Joins.{joins_multilink, may_join}
use Rattle.std.proofs.Common.{refl, slice_get}
use Rattle.ppp_table.proofs.core_state.TableCore.join.Goals as goal

pub unit_takes-requires-clause-may : goal.unit_takes-requires-clause-may
unit_takes-requires-clause-may g c = rw (← c.self.view_is) at (may_join (slice_get c.args.self.now.units c.args.unit) c.args.link c.args.mru
    (joins_multilink _ c.args.link c.args.unit c.args.terms c.args.self.now refl c.requires.told)
    (nowhere 0 c.args.link c.args.self.now.units c.requires.none c.args.unit) c.requires.mru.0 c.requires.mru.1)

pub returns-clause-whole : goal.returns-clause-whole
returns-clause-whole g c = whole_join c.args.unit c.args.link c.args.stay c.args.mru c.args.terms _ c.args.self.now c.unit_takes.new.self _ c.self.view_is c.set_terms.ensures.new c.set_terms.ensures.there
    c.unit_takes.ensures.step c.unit_takes.ensures.sixteen c.unit_takes.ensures.drained c.requires.whole c.requires.none c.requires.told
