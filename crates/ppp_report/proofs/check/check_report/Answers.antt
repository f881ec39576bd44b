use Rattle.std.proofs.Common.{rules, ◌≡◌, ◌∷◌, length, subst, arith, ◌∙◌, ap}
use Rattle.ppp_mark.specs.Lines.{lines_of}
use Rattle.ppp_report.specs.Places.{At}
use Rattle.ppp_report.specs.Report.{end_word}
use Rattle.ppp_report.proofs.PlaceLemmas.{at_left, begin, no_lines_left}
use Rattle.ppp_report.proofs.check.check_report.Goals as goal

pub sections-init : goal.sections-init
sections-init c = (begin (lines_of c.args.report.now), omega arith, omega arith, omega arith)

pub returns-then-eq : goal.returns-then-eq
returns-then-eq c =
    let at = c.sections.at in
    let is : c.first_line.result.0.now ≡ end_word = search rules in
    c.after_end.ensures (lines_of c.args.report.now) at.links at.least
    (subst (λ ls. At (lines_of c.args.report.now) at.links at.least ls at.line) (c.first_line.ensures.lines ∙ ap (λ l. l ∷ lines_of c.first_line.result.1.now) is) c.sections.invariant.0)

pub section-requires-clause-small : goal.section-requires-clause-small
section-requires-clause-small c = omega (arith, c.sections.invariant.1, c.first_line.ensures.shorter, c.type_inv.report)

pub returns : goal.returns
returns c =
    let at = c.sections.at in
    let none : length at.rest.now ≡ 0 = search rules in
    at_left (lines_of c.args.report.now) at.links at.least at.line
    (subst (λ ls. At (lines_of c.args.report.now) at.links at.least ls at.line) (no_lines_left at.rest.now none) c.sections.invariant.0)
