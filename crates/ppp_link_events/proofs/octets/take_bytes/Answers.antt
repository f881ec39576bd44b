use Rattle.std.proofs.Common.{arith, length}
use Rattle.ppp_link_events.proofs.OctetFacts.{bytes_goes, bytes_takes, counted_calm, counted_hears, hears_room}
use Rattle.ppp_link_events.proofs.octets.take_bytes.Goals as goal

pub hear-requires-clause-hears : goal.hear-requires-clause-hears
hear-requires-clause-hears g c = counted_hears (length c.args.octets.now) c.count.ensures.does c.requires.goes

pub hear-requires-clause-calm : goal.hear-requires-clause-calm
hear-requires-clause-calm g c = counted_calm (length c.args.octets.now) c.count.ensures.does c.requires.goes.calm

pub end_step-requires-clause-room : goal.end_step-requires-clause-room
end_step-requires-clause-room g c = omega (arith, hears_room c.hear.ensures.hears)

pub returns-clause-takes : goal.returns-clause-takes
returns-clause-takes g c = bytes_takes c.args.octets.now c.count.ensures.does c.hear.ensures.does c.end_step.ensures.does

pub returns-clause-goes : goal.returns-clause-goes
returns-clause-goes g c = bytes_goes c.args.octets.now c.count.ensures.does c.hear.ensures.does c.end_step.ensures.does c.requires.goes c.end_step.ensures.sits c.end_step.ensures.calm
