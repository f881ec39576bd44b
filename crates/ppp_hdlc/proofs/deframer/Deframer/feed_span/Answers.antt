use Rattle.std.proofs.Common.{◌+◌, sym, ◌∙◌}
use Rattle.std.proofs.lemmas.Bool.{false≢true}
use Rattle.ppp_hdlc.proofs.Spanning.{has_none, has_run, has_one, ends_fed, span_ends, span_all, told_span, frames_span, stands_span, map_span}
use Rattle.ppp_hdlc.proofs.deframer.Deframer.feed_span.Goals as goal

pub loop-used-init : goal.loop-used-init
loop-used-init c = has_none c.args.self.now c.args.octets.now

pub loop-used-preserved : goal.loop-used-preserved
loop-used-preserved c = has_run _ c.loop-used.self _ _ c.loop-used.used _ c.loop-used.invariant c.take_to_flag-used.ensures

pub loop-used-preserved-else-not-is_nothing : goal.loop-used-preserved-else-not-is_nothing
loop-used-preserved-else-not-is_nothing c =
    has_one _ c.take_to_flag-used.new.self _ _ c.take_to_flag-used.result c.feed-heard.result (has_run _ c.loop-used.self _ _ c.loop-used.used _ c.loop-used.invariant c.take_to_flag-used.ensures) c.if-used-octets.true c.feed-heard.ensures.fed c.feed-heard.ensures.heard (c.is_nothing.ensures.0 c.if-not-is_nothing.false)

pub returns-then-not-is_nothing-clause-fed : goal.returns-then-not-is_nothing-clause-fed
returns-then-not-is_nothing-clause-fed c =
    ends_fed c.args.self.now c.take_to_flag-used.new.self c.feed-heard.new.self c.args.octets.now c.take_to_flag-used.result (has_run _ c.loop-used.self _ _ c.loop-used.used _ c.loop-used.invariant c.take_to_flag-used.ensures) c.if-used-octets.true c.feed-heard.ensures.fed

pub returns-then-not-is_nothing-clause-span : goal.returns-then-not-is_nothing-clause-span
returns-then-not-is_nothing-clause-span c =
    span_ends c.args.self.now c.take_to_flag-used.new.self c.args.octets.now c.take_to_flag-used.result c.feed-heard.result (has_run _ c.loop-used.self _ _ c.loop-used.used _ c.loop-used.invariant c.take_to_flag-used.ensures) c.if-used-octets.true c.feed-heard.ensures.heard
    (λ nothing. false≢true (sym c.if-not-is_nothing.true ∙ c.is_nothing.ensures.1 nothing))

pub returns-then-not-is_nothing-clause-map : goal.returns-then-not-is_nothing-clause-map
returns-then-not-is_nothing-clause-map c =
    map_span c.args.octets.now c.args.self.now c.feed-heard.new.self (c.take_to_flag-used.result + 1)
    (ends_fed c.args.self.now c.take_to_flag-used.new.self c.feed-heard.new.self c.args.octets.now c.take_to_flag-used.result (has_run _ c.loop-used.self _ _ c.loop-used.used _ c.loop-used.invariant c.take_to_flag-used.ensures) c.if-used-octets.true c.feed-heard.ensures.fed)

pub returns-then-not-is_nothing-clause-stands : goal.returns-then-not-is_nothing-clause-stands
returns-then-not-is_nothing-clause-stands c = λ stream stands.
    stands_span c.args.octets.now c.args.self.now c.feed-heard.new.self (c.take_to_flag-used.result + 1) stream
    (ends_fed c.args.self.now c.take_to_flag-used.new.self c.feed-heard.new.self c.args.octets.now c.take_to_flag-used.result (has_run _ c.loop-used.self _ _ c.loop-used.used _ c.loop-used.invariant c.take_to_flag-used.ensures) c.if-used-octets.true c.feed-heard.ensures.fed)
    stands

pub returns-then-not-is_nothing-clause-told : goal.returns-then-not-is_nothing-clause-told
returns-then-not-is_nothing-clause-told c = λ stream stands.
    told_span c.args.octets.now c.args.self.now (c.take_to_flag-used.result + 1) c.feed-heard.result stream
    (span_ends c.args.self.now c.take_to_flag-used.new.self c.args.octets.now c.take_to_flag-used.result c.feed-heard.result (has_run _ c.loop-used.self _ _ c.loop-used.used _ c.loop-used.invariant c.take_to_flag-used.ensures) c.if-used-octets.true c.feed-heard.ensures.heard (λ nothing. false≢true (sym c.if-not-is_nothing.true ∙ c.is_nothing.ensures.1 nothing)))
    stands

pub returns-clause-map : goal.returns-clause-map
returns-clause-map c = map_span c.args.octets.now c.args.self.now c.loop-used.self c.loop-used.used c.loop-used.invariant.fed

pub returns-clause-stands : goal.returns-clause-stands
returns-clause-stands c = λ stream stands. stands_span c.args.octets.now c.args.self.now c.loop-used.self c.loop-used.used stream c.loop-used.invariant.fed stands

pub returns-clause-told : goal.returns-clause-told
returns-clause-told c = λ stream stands.
    told_span c.args.octets.now c.args.self.now c.loop-used.used _ stream (span_all c.args.self.now c.loop-used.self c.args.octets.now c.loop-used.used c.loop-used.invariant c.loop-used-test.false) stands

pub returns-clause-span : goal.returns-clause-span
returns-clause-span c = span_all c.args.self.now c.loop-used.self c.args.octets.now c.loop-used.used c.loop-used.invariant c.loop-used-test.false

pub returns-then-not-is_nothing-clause-answers : goal.returns-then-not-is_nothing-clause-answers
returns-then-not-is_nothing-clause-answers c = λ stream stands some.
    frames_span c.args.octets.now c.args.self.now (c.take_to_flag-used.result + 1) c.feed-heard.result stream
    (span_ends c.args.self.now c.take_to_flag-used.new.self c.args.octets.now c.take_to_flag-used.result c.feed-heard.result (has_run _ c.loop-used.self _ _ c.loop-used.used _ c.loop-used.invariant c.take_to_flag-used.ensures) c.if-used-octets.true c.feed-heard.ensures.heard (λ nothing. false≢true (sym c.if-not-is_nothing.true ∙ c.is_nothing.ensures.1 nothing)))
    stands some

pub returns-clause-answers : goal.returns-clause-answers
returns-clause-answers c = λ stream stands some.
    frames_span c.args.octets.now c.args.self.now c.loop-used.used _ stream (span_all c.args.self.now c.loop-used.self c.args.octets.now c.loop-used.used c.loop-used.invariant c.loop-used-test.false) stands some
