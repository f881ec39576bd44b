use Rattle.ppp_report.proofs.check.after_marks.Goals as goal

pub returns-in-Ok-clause-place : goal.returns-in-Ok-clause-place
returns-in-Ok-clause-place c = λ lines past i counted other settled.
    rw c.number.ensures.value (c.in-Ok.ensures.place lines c.args.links c.args.least _ past (rw c.in-Link.is at i) (rw c.in-Link.is at other) settled)

pub returns-in-Err-clause-place : goal.returns-in-Err-clause-place
returns-in-Err-clause-place c = λ lines past i counted other settled.
    c.in-Err.ensures.place lines c.args.links c.args.least _ past (rw c.in-Link.is at i) (rw c.in-Link.is at other) settled

pub returns-in-Ok-after_unit-clause-place : goal.returns-in-Ok-after_unit-clause-place
returns-in-Ok-after_unit-clause-place c = λ lines past i counted other settled.
    rw c.number-in-Ok-after_unit.ensures.value
    (c.in-Ok-after_unit.ensures.place lines c.args.links c.args.least _ past (rw c.in-Unit.is at i) counted (rw c.in-Unit.is at other) settled)

pub returns-in-Err-after_unit-clause-place : goal.returns-in-Err-after_unit-clause-place
returns-in-Err-after_unit-clause-place c = λ lines past i counted other settled.
    c.in-Err-after_unit.ensures.place lines c.args.links c.args.least _ past (rw c.in-Unit.is at i) counted (rw c.in-Unit.is at other) settled
