use Rattle.ppp_link_parts.proofs.SpanLemmas.{heard_span}
use Rattle.ppp_link_parts.proofs.hearing.hear_span.Goals as goal

pub returns-clause-taken : goal.returns-clause-taken
returns-clause-taken c s e f g =
    heard_span c.args.octets.now s c.feed_span-span.result.used c.feed_span-span.result.heard c.args.deframer.now c.feed_span-span.new.self c.args.counts.now _ c.feed_span-span.ensures.span
    c.feed_span-span.ensures.fed c.counted.ensures e f g
