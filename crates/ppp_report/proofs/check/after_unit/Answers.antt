use Rattle.std.proofs.Common.{rules, ◌≡◌, ◌<◌, true, false, sym, subst, arith, ◌∙◌}
use Rattle.ppp_mark.specs.Lines.{lines_of}
use Rattle.ppp_report.specs.Places.{IsSettledAs}
use Rattle.ppp_report.proofs.PlaceLemmas.{unit_empty, unit_some, unit_unsettled}
use Rattle.ppp_report.proofs.check.after_unit.Goals as goal

pub returns-then-count-eq0-clause-place : goal.returns-then-count-eq0-clause-place
returns-then-count-eq0-clause-place c = λ lines links least unit past i counted other settled.
    let none : c.args.count ≡ 0 = search rules in
    unit_empty lines links least unit past (lines_of c.args.rest.now) c.args.line i (sym counted ∙ none) other

pub returns-then-not-settled-clause-place : goal.returns-then-not-settled-clause-place
returns-then-not-settled-clause-place c = λ lines links least unit past i counted other settled.
    let off : c.args.settled ≡ false = search rules in
    unit_unsettled lines links least unit past (lines_of c.args.rest.now) c.args.line i other (subst (λ b. IsSettledAs b past) off settled)

pub returns-clause-place : goal.returns-clause-place
returns-clause-place c = λ lines links least unit past i counted other settled.
    let on : c.args.settled ≡ true = search rules in
    let some : 0 < c.args.count = search rules in
    unit_some lines links least unit past (lines_of c.args.rest.now) c.args.line i (omega (arith, some, counted)) other (subst (λ b. IsSettledAs b past) on settled)
