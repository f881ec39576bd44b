use Rattle.std.proofs.Common.{rules}
use Rattle.ppp_bundle.proofs.CountFacts.{event_counts, moved_counts}
use Rattle.ppp_bundle.proofs.unit_state.UnitCore.step.Goals as goal

pub returns-in-Taken-clause-counts : goal.returns-in-Taken-clause-counts
returns-in-Taken-clause-counts g c t f counts =
    moved_counts g.S.Spawner.tries g.S.Spawner.faults t f 20 _ c.look.new.self.scripts c.look.ensures.goes.moves
    (c.in-Taken.ensures.counts t f (event_counts g.S.Spawner.tries g.S.Spawner.faults t f c.args.event c.args.self.now _ (search rules) counts))
