use Rattle.std.proofs.Common.{arith}
use Rattle.ppp_link_events.proofs.EventFacts.{post_goes, post_takes}
use Rattle.ppp_link_events.proofs.GoingFacts.{goes_room, room_after}
use Rattle.ppp_link_events.proofs.events.take_post.Goals as goal

pub end_step-requires-clause-room : goal.end_step-requires-clause-room
end_step-requires-clause-room g c = room_after (goes_room c.requires.goes) 13 8 c.take_post.ensures.grows (omega arith)

pub returns-clause-takes : goal.returns-clause-takes
returns-clause-takes g c = post_takes c.args.post c.take_post.ensures.does c.end_step.ensures.does

pub returns-clause-goes : goal.returns-clause-goes
returns-clause-goes g c = post_goes c.args.post c.take_post.ensures.does c.end_step.ensures.does c.requires.present c.requires.goes c.end_step.ensures.sits c.end_step.ensures.calm
