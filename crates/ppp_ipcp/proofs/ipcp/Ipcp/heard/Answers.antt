-- Looking back over the packet, and what it leaves.
use Rattle.ppp_ipcp.specs.Around.{around}
use Rattle.ppp_ipcp.proofs.EventLemmas.{heard_event, heard_acts, heard_fsm, opens_by}
use Rattle.ppp_ipcp.proofs.HeardLemmas.{calls_heard}
use Rattle.ppp_ipcp.proofs.ipcp.Ipcp.heard.Goals as goal

pub returns-clause-calls : goal.returns-clause-calls
returns-clause-calls c wish past s = calls_heard wish past _ _ _ _ _ _ c.take.ensures.new c.take.ensures.told s

pub returns-clause-event : goal.returns-clause-event
returns-clause-event c = heard_event c.args.self.now (around c.args.allow.now c.args.secrets.now c.args.mru) c.args.packet.now c.args.now _ _ c.take.ensures.told

pub returns-clause-acts : goal.returns-clause-acts
returns-clause-acts c = heard_acts c.args.self.now (around c.args.allow.now c.args.secrets.now c.args.mru) c.args.packet.now c.args.now _ _ c.take.ensures.told

pub returns-clause-automaton : goal.returns-clause-automaton
returns-clause-automaton c = heard_fsm c.args.self.now (around c.args.allow.now c.args.secrets.now c.args.mru) c.args.packet.now c.args.now _ _ _ c.take.ensures.new c.take.ensures.told

pub returns-clause-opens : goal.returns-clause-opens
returns-clause-opens c = opens_by c.args.self.now c.take.new.self c.take.result (returns-clause-acts c) (returns-clause-automaton c)
