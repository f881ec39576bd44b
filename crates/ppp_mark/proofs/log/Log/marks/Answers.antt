use Rattle.ppp_mark.proofs.ReportLemmas.{are-reverse}
use Rattle.ppp_mark.proofs.log.Log.marks.Goals as goal

pub returns-clause-kinds : goal.returns-clause-kinds
returns-clause-kinds c = rw (← c.self.view_is) (are-reverse _ c.self.invariant.2)
