use Rattle.std.proofs.Common.{rules, ◌≡◌, ◌∷◌, length, true, false, ap, subst, arith, ◌∙◌}
use Rattle.ppp_mark.specs.declared.report.LogName.TheVariants.{Link}
use Rattle.ppp_mark.specs.Lines.{lines_of}
use Rattle.ppp_report.specs.Places.{In, IsSettledAs}
use Rattle.ppp_report.proofs.PlaceLemmas.{link_left, no_lines_left, status_bad, status_taken, status_unsettled}
use Rattle.ppp_report.proofs.check.after_link.Goals as goal

pub returns-then-is_empty-clause-place : goal.returns-then-is_empty-clause-place
returns-then-is_empty-clause-place c = λ lines links least link past i other settled.
    let none : length c.args.rest.now ≡ 0 = search rules in
    link_left lines links least link past c.args.line (subst (λ ls. In lines links least (Link link) past ls c.args.line) (no_lines_left c.args.rest.now none) i)

pub returns-in_default-clause-place : goal.returns-in_default-clause-place
returns-in_default-clause-place c = λ lines links least link past i other settled.
    let last = c.first_line.result.0.now in
    let more = lines_of c.first_line.result.1.now in
    let is = c.first_line.ensures.lines in
    status_bad lines links least link past last more c.args.line (subst (λ ls. In lines links least (Link link) past ls c.args.line) is i)
    (λ n fit e. other n more fit (is ∙ ap (λ l. l ∷ more) e)) (λ s small e. c.in_default.ensures.found s (omega (arith, small)) e)

pub returns-then-not-settled-clause-place : goal.returns-then-not-settled-clause-place
returns-then-not-settled-clause-place c = λ lines links least link past i other settled.
    let more = lines_of c.first_line.result.1.now in
    let status = c.in-Some.ensures.sound in
    let is = c.first_line.ensures.lines ∙ ap (λ l. l ∷ more) status.1 in
    let off : c.args.settled ≡ false = search rules in
    status_unsettled lines links least link past _ more c.args.line (subst (λ ls. In lines links least (Link link) past ls c.args.line) is i)
    (subst (λ b. IsSettledAs b past) off settled)

pub returns-clause-place : goal.returns-clause-place
returns-clause-place c = λ lines links least link past i other settled.
    let more = lines_of c.first_line.result.1.now in
    let status = c.in-Some.ensures.sound in
    let is = c.first_line.ensures.lines ∙ ap (λ l. l ∷ more) status.1 in
    let on : c.args.settled ≡ true = search rules in
    status_taken lines links least link past _ more c.args.line (subst (λ ls. In lines links least (Link link) past ls c.args.line) is i)
    (omega (arith, status.0)) (subst (λ b. IsSettledAs b past) on settled)
