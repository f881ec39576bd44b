use Rattle.std.proofs.Common.{take}
use Rattle.ppp_link_hearing.proofs.OctetFacts.{span_does}
use Rattle.ppp_link_hearing.proofs.octets.frame_span.Goals as goal

pub returns-clause-does : goal.returns-clause-does
returns-clause-does g c = span_does (take c.deframe-span.result.used c.args.octets.now) c.deframe-span.result.heard c.deframe-span.new.core.deframer c.deframe-span.new.core.counts c.deframe-span.ensures.taken c.deframe-span.ensures.does c.take_heard.ensures.does
