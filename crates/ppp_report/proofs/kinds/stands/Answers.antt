use Rattle.ppp_report.proofs.kinds.stands.Goals as goal

pub returns-in-Link : goal.returns-in-Link
returns-in-Link c = rw c.in-Link.is (c.stands_in_link.ensures c.in-Link.field-0)

pub returns-in-Unit : goal.returns-in-Unit
returns-in-Unit c = rw c.in-Unit.is (c.stands_in_unit.ensures c.in-Unit.field-0)
