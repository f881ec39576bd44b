-- Looking back over the tick, and what it leaves.
use Rattle.ppp_ipcp.proofs.EventLemmas.{ticked_acts, ticked_fsm, opens_by}
use Rattle.ppp_ipcp.proofs.SessionLemmas.{tick_stands}
use Rattle.ppp_ipcp.proofs.ipcp.Ipcp.tick.Goals as goal

pub returns-clause-calls : goal.returns-clause-calls
returns-clause-calls c wish past s = tick_stands wish past _ _ _ _ c.look.ensures.new c.look.ensures.told s

pub returns-clause-acts : goal.returns-clause-acts
returns-clause-acts c = ticked_acts c.args.now c.args.self.now _ c.look.ensures.told

pub returns-clause-automaton : goal.returns-clause-automaton
returns-clause-automaton c = ticked_fsm c.args.now c.args.self.now _ _ c.look.ensures.new c.look.ensures.told

pub returns-clause-opens : goal.returns-clause-opens
returns-clause-opens c = opens_by c.args.self.now c.look.new.self c.look.result (returns-clause-acts c) (returns-clause-automaton c)
