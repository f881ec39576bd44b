use Rattle.ppp_mark.proofs.ScriptLemmas.{kept_put}
use Rattle.ppp_mark.proofs.script_log.ScriptLog.put.Goals as goal

pub invariant_of-self : goal.invariant_of-self
invariant_of-self g c =
    rw c.add.ensures
    (kept_put c.self.inside.machine c.self.inside.log c.args.mark c.self.invariant c.requires.other (rw (← c.self.view_is) at c.requires.owner) c.requires.in_table)

pub returns-clause-stands : goal.returns-clause-stands
returns-clause-stands g c =
    rw c.add.ensures
    (kept_put c.self.inside.machine c.self.inside.log c.args.mark c.self.invariant c.requires.other (rw (← c.self.view_is) at c.requires.owner) c.requires.in_table)
