use Rattle.std.proofs.Common.{◌∙◌, ◌+◌, ap, min}
use Rattle.ppp_trace.proofs.FaultLemmas.{lacks_header, lacks_long}
use Rattle.ppp_trace.proofs.sections.started.Goals as goal

pub returns-in-Some : goal.returns-in-Some
returns-in-Some c = λ name lines few reads.
    lacks_long name c.args.line lines c.args.section c.in-Some.place c.saturating_add.result c.bad_at.result few reads c.if-section.false c.in-Some.is
    (c.saturating_add.ensures ∙ ap (λ first. min (first + c.in-Some.place) 18446744073709551615) c.saturating_add-first.ensures) c.bad_at.ensures

pub returns : goal.returns
returns c = λ name lines few reads.
    lacks_header name c.args.line lines c.args.section c.saturating_add-in-None-2.result c.bad_at-in-None.result few reads c.if-section.false c.in-None.is
    (c.saturating_add-in-None-2.ensures
    ∙ ap (λ x. min (x + 1) 18446744073709551615) (c.saturating_add-in-None.ensures ∙ ap (λ first. min (first + c.args.section.count) 18446744073709551615) c.saturating_add-first.ensures)) c.bad_at-in-None.ensures
