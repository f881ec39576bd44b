use Rattle.std.proofs.Common.{arith}
use Rattle.ppp_link_events.proofs.EventFacts.{dial_goes, dial_takes}
use Rattle.ppp_link_events.proofs.GoingFacts.{goes_room, room_after}
use Rattle.ppp_link_events.proofs.events.take_dial.Goals as goal

pub end_step-requires-clause-room : goal.end_step-requires-clause-room
end_step-requires-clause-room g c = room_after (goes_room c.requires.goes) 27 8 c.take_dial_back.ensures.grows (omega arith)

pub returns-clause-takes : goal.returns-clause-takes
returns-clause-takes g c = dial_takes c.args.came c.take_dial_back.ensures.does c.end_step.ensures.does

pub returns-clause-goes : goal.returns-clause-goes
returns-clause-goes g c = dial_goes c.args.came c.take_dial_back.ensures.does c.end_step.ensures.does c.requires.out c.requires.goes c.end_step.ensures.sits c.end_step.ensures.calm
