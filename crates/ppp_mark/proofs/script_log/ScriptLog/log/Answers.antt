use Rattle.ppp_mark.proofs.ScriptLemmas.{keeps_law}
use Rattle.ppp_mark.proofs.script_log.ScriptLog.log.Goals as goal

pub returns-clause-law : goal.returns-clause-law
returns-clause-law g c = rw (← c.self.view_is) (keeps_law c.self.inside.machine c.self.inside.log c.self.invariant)
