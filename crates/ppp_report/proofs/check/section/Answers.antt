use Rattle.std.proofs.Common.{◌+◌, ◌∷◌, [], sym, subst}
use Rattle.ppp_mark.specs.Lines.{lines_of}
use Rattle.ppp_report.specs.BadLine.{IsFirstBad}
use Rattle.ppp_report.specs.Places.{At, In}
use Rattle.ppp_report.specs.Reads.{HowEnd}
use Rattle.ppp_report.proofs.PlaceLemmas.{marks_broken, marks_in, no_heading, start}
use Rattle.ppp_report.proofs.check.section.Goals as goal

pub returns-in_default-clause-place : goal.returns-in_default-clause-place
returns-in_default-clause-place c = λ lines other a.
    no_heading lines c.args.links c.args.least c.args.first.now (lines_of c.args.behind.now) c.args.line a other c.in_default.ensures.found

pub returns-in-Broken-clause-place : goal.returns-in-Broken-clause-place
returns-in-Broken-clause-place c = λ lines other a.
    let links = c.args.links in
    let least = c.args.least in
    let name = c.in-Some.name in
    let sound = c.in-Some.ensures.sound in
    let read = c.read_marks-marks.ensures in
    let how = subst (λ e. HowEnd e name read.past c.read_marks-marks.result.rest.now) c.in-Broken.is read.how in
    let headed = subst (λ l. At lines links least (l ∷ lines_of c.args.behind.now) c.args.line) sound.1 a in
    let begun = start lines links least name (lines_of c.args.behind.now) c.args.line headed sound.0 in
    subst (λ n. IsFirstBad lines (c.args.line + 1 + n)) (sym read.counted)
    (marks_broken lines links least name read.past c.read_marks-marks.result.rest.now (c.args.line + 1) read.fit how
    (subst (λ ls. In lines links least name [] ls (c.args.line + 1)) read.lines begun))

pub returns-in-Unsettled-clause-place : goal.returns-in-Unsettled-clause-place
returns-in-Unsettled-clause-place c = λ lines other a.
    let links = c.args.links in
    let least = c.args.least in
    let name = c.in-Some.name in
    let sound = c.in-Some.ensures.sound in
    let read = c.read_marks-marks.ensures in
    let rest = c.read_marks-marks.result.rest.now in
    let how = subst (λ e. HowEnd e name read.past rest) c.in-Unsettled.is read.how in
    let headed = subst (λ l. At lines links least (l ∷ lines_of c.args.behind.now) c.args.line) sound.1 a in
    let begun = start lines links least name (lines_of c.args.behind.now) c.args.line headed sound.0 in
    let now = marks_in lines links least name read.past (lines_of rest) (c.args.line + 1) read.fit how.0
    (subst (λ ls. In lines links least name [] ls (c.args.line + 1)) read.lines begun) in
    c.after_marks.ensures.place lines read.past (subst (λ n. In lines links least name read.past (lines_of rest) (c.args.line + 1 + n)) (sym read.counted) now)
    read.counted how.1 how.2

pub returns-in-Settled-clause-place : goal.returns-in-Settled-clause-place
returns-in-Settled-clause-place c = λ lines other a.
    let links = c.args.links in
    let least = c.args.least in
    let name = c.in-Some.name in
    let sound = c.in-Some.ensures.sound in
    let read = c.read_marks-marks.ensures in
    let rest = c.read_marks-marks.result.rest.now in
    let how = subst (λ e. HowEnd e name read.past rest) c.in-Settled.is read.how in
    let headed = subst (λ l. At lines links least (l ∷ lines_of c.args.behind.now) c.args.line) sound.1 a in
    let begun = start lines links least name (lines_of c.args.behind.now) c.args.line headed sound.0 in
    let now = marks_in lines links least name read.past (lines_of rest) (c.args.line + 1) read.fit how.0
    (subst (λ ls. In lines links least name [] ls (c.args.line + 1)) read.lines begun) in
    c.after_marks-in-Settled.ensures.place lines read.past (subst (λ n. In lines links least name read.past (lines_of rest) (c.args.line + 1 + n)) (sym read.counted) now)
    read.counted how.1 how.2
