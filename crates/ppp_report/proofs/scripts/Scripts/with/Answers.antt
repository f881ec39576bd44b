use Rattle.ppp_mark.specs.Scripts.{answer_of, said_in}
use Rattle.ppp_report.proofs.ScriptLemmas.{closed, ended}
use Rattle.ppp_report.proofs.scripts.Scripts.with.Goals as goal

pub returns-in-6 : goal.returns-in-6
returns-in-6 c = λ past tells among. closed c.args.mark (said_in past) c.with_closed.result c.in-6.is (c.with_closed.ensures (said_in past) c.args.mark.z tells)

pub returns-in-8 : goal.returns-in-8
returns-in-8 c = λ past tells among.
    ended c.args.mark (said_in past) c.with_end.result c.in-8.is (c.with_end.ensures (said_in past) (answer_of c.args.mark.x c.args.mark.y) tells)
