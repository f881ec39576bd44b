use Rattle.std.proofs.Common.{arith}
use Rattle.ppp_link_events.proofs.EventFacts.{begin_goes, begin_takes, idle_takes}
use Rattle.ppp_link_events.proofs.GoingFacts.{goes_room, room_after}
use Rattle.ppp_link_events.proofs.events.begin_if.Goals as goal

pub end_step-requires-clause-room : goal.end_step-requires-clause-room
end_step-requires-clause-room g c = room_after (goes_room c.requires.goes) 1 8 c.begin.ensures.grows (omega arith)

pub returns-then-new-clause-takes : goal.returns-then-new-clause-takes
returns-then-new-clause-takes g c = begin_takes c.if-new.true c.requires.new c.begin.ensures.does c.end_step.ensures.does

pub returns-then-new-clause-goes : goal.returns-then-new-clause-goes
returns-then-new-clause-goes g c = begin_goes c.if-new.true c.requires.new c.begin.ensures.does c.end_step.ensures.does c.requires.goes c.end_step.ensures.sits c.end_step.ensures.calm

pub returns-else-new-clause-takes : goal.returns-else-new-clause-takes
returns-else-new-clause-takes g c = idle_takes c.if-new.false c.requires.new
