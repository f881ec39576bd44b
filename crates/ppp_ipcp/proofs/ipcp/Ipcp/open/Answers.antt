-- Looking back over the event, and what it leaves.
use Rattle.ppp_fsm.specs.declared.event.FsmEvent.TheVariants.{Open}
use Rattle.ppp_control.specs.Rules.{opens}
use Rattle.ppp_ipcp.proofs.EventLemmas.{left_fsm, opens_at}
use Rattle.ppp_ipcp.proofs.SessionLemmas.{alone_stands}
use Rattle.ppp_ipcp.proofs.ipcp.Ipcp.open.Goals as goal

pub returns-clause-calls : goal.returns-clause-calls
returns-clause-calls c wish past s = alone_stands wish past _ opens _ _ _ c.event.ensures.new c.event.ensures.told s

pub returns-clause-automaton : goal.returns-clause-automaton
returns-clause-automaton c = left_fsm Open c.args.now c.args.self.now _ c.event.ensures.new

pub returns-clause-opens : goal.returns-clause-opens
returns-clause-opens c = opens_at Open c.args.now c.args.self.now _ _ c.event.ensures.new c.event.ensures.told
