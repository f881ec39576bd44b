use Rattle.ppp_table.proofs.Places.{drained_at}
use Rattle.ppp_table_facts.proofs.Bare.{nothing_given}
use Rattle.ppp_table_facts.proofs.Gives.{gives_all}
use Rattle.ppp_table_facts.proofs.TableSteps.{keep_at}
use Rattle.ppp_table_facts.proofs.laws.deliveries_come_from_members.Goals as goal
use Rattle.std.proofs.Common.{refl}

pub returns-clause-added : goal.returns-clause-added
returns-clause-added g c unit event old new s = s.goes.given

pub returns-clause-came : goal.returns-clause-came
returns-clause-came g c unit event old new s h terms past =
    gives_all old.secrets terms past event s.was.live s.was s.goes.is s.goes.part refl (drained_at old.units unit s.was h.whole.drained s.there).1 (s.goes.history terms past)

pub returns-clause-has_past : goal.returns-clause-has_past
returns-clause-has_past g c unit event old new s h = (keep_at unit s.was old.units s.there h.units).unit.history

pub returns-clause-none : goal.returns-clause-none
returns-clause-none g c unit event old new s h live = nothing_given old.secrets event s.was s.goes.is s.goes.part live (drained_at old.units unit s.was h.whole.drained s.there).1
