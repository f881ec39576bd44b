use Rattle.std.proofs.Common.{arith}
use Rattle.ppp_link_events.proofs.EventFacts.{sent_goes, sent_takes}
use Rattle.ppp_link_events.proofs.GoingFacts.{goes_room, room_after}
use Rattle.ppp_link_events.proofs.events.take_sent.Goals as goal

pub end_step-requires-clause-room : goal.end_step-requires-clause-room
end_step-requires-clause-room g c = room_after (goes_room c.requires.goes) 18 8 c.take_writing_back.ensures.grows (omega arith)

pub end_step-requires-clause-calm : goal.end_step-requires-clause-calm
end_step-requires-clause-calm g c = c.take_writing_back.ensures.calm c.requires.goes.calm

pub returns-clause-takes : goal.returns-clause-takes
returns-clause-takes g c = sent_takes c.args.how c.take_writing_back.ensures.does c.end_step.ensures.does

pub returns-clause-goes : goal.returns-clause-goes
returns-clause-goes g c = sent_goes c.args.how c.take_writing_back.ensures.does c.end_step.ensures.does c.requires.out c.requires.goes c.end_step.ensures.sits c.end_step.ensures.calm
