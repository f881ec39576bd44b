use Rattle.ppp_link_core.proofs.CallFacts.{answered_does}
use Rattle.ppp_link_core.proofs.link_core.LinkCore.take_answer.Goals as goal

pub returns-clause-does : goal.returns-clause-does
returns-clause-does g c = answered_does c.args.was_open c.args.cause c.args.out.now c.is_busy-busy.ensures.stands c.is_first-first.ensures c.first_cause.ensures.does c.send_packets.ensures.does c.follow.ensures.does c.close_if.ensures.does
