use Rattle.std.proofs.Common.{◌≡◌, ◌<◌, ℕ, length, arith, refl}
use Rattle.ppp_table.proofs.Places.{found}
use Rattle.ppp_table.proofs.Wholes.{whole_set}
use Rattle.ppp_table.proofs.core_state.TableCore.take_job.Goals as goal

below : (n m : ℕ) → m ≡ 16 → n < 16 → n < m
below n m e lt = rw e lt

pub returns-clause-job : goal.returns-clause-job
returns-clause-job g c =
    let some : c.number.result < length c.self.inside.units.items = below c.number.result (length c.self.inside.units.items) (rw (← c.self.view_is) at c.requires.whole.sixteen) (grind (arith, c.number.ensures.value, c.number.ensures.range)) in
    rw (← c.self.view_is, ← c.number.ensures.value) (record {
      was = c.index_mut.result.now;
      now = c.job_of.new.unit;
      there = found c.self.inside.units.items c.number.result c.index_mut.result.now some c.index_mut.ensures.value;
      takes = c.job_of.ensures.takes;
      after = refl;
    })

pub returns-clause-whole : goal.returns-clause-whole
returns-clause-whole g c =
    let some : c.number.result < length c.self.inside.units.items = below c.number.result (length c.self.inside.units.items) (rw (← c.self.view_is) at c.requires.whole.sixteen) (grind (arith, c.number.ensures.value, c.number.ensures.range)) in
    whole_set c.number.result c.index_mut.result.now c.job_of.new.unit c.args.self.now _ (rw (← c.self.view_is) (found c.self.inside.units.items c.number.result c.index_mut.result.now some c.index_mut.ensures.value))
    c.job_of.ensures.live c.job_of.ensures.sent c.job_of.ensures.given (rw (← c.self.view_is) refl) (rw (← c.self.view_is) refl) c.requires.whole
