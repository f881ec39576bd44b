use Rattle.std.proofs.Common.{arith}
use Rattle.ppp_link_events.proofs.EventFacts.{tick_goes, tick_takes}
use Rattle.ppp_link_events.proofs.GoingFacts.{goes_room, room_after}
use Rattle.ppp_link_events.proofs.events.tick.Goals as goal

pub end_step-requires-clause-room : goal.end_step-requires-clause-room
end_step-requires-clause-room g c = room_after (goes_room c.requires.goes) 47 8 c.tick.ensures.grows (omega arith)

pub returns-clause-takes : goal.returns-clause-takes
returns-clause-takes g c = tick_takes c.args.now c.tick.ensures.does c.end_step.ensures.does

pub returns-clause-goes : goal.returns-clause-goes
returns-clause-goes g c = tick_goes c.args.now c.tick.ensures.does c.end_step.ensures.does c.requires.goes c.end_step.ensures.sits c.end_step.ensures.calm
