use Rattle.ppp_link_hearing.proofs.FrameFacts.{frame_does}
use Rattle.ppp_link_hearing.proofs.frames.take_frame.Goals as goal

pub returns-clause-does : goal.returns-clause-does
returns-clause-does g c = frame_does c.args.protocol c.args.information.now c.is_open-open_now.ensures.stands c.has_passed-passed.ensures.stands c.agreed-agreed.ensures.stands c.way_of-way.ensures c.treat.ensures.does
