-- Looking back over the call, and what it leaves.
use Rattle.ppp_lcp.proofs.HeardLemmas.{calls_heard}
use Rattle.ppp_lcp.proofs.EventLemmas.{heard_event, heard_acts, heard_fsm, opens_by}
use Rattle.ppp_lcp.proofs.QuietLemmas.{by_own_wish}
use Rattle.ppp_lcp.proofs.lcp.Lcp.heard.Goals as goal

pub returns-clause-calls : goal.returns-clause-calls
returns-clause-calls c wish words past s = by_own_wish wish words past _ _ _ _ _ s (λ t. calls_heard words past _ _ _ _ _ c.take.ensures.new c.take.ensures.told t)

pub returns-clause-event : goal.returns-clause-event
returns-clause-event c = heard_event c.args.packet.now c.args.now c.args.self.now _ _ c.take.ensures.told

pub returns-clause-acts : goal.returns-clause-acts
returns-clause-acts c = heard_acts c.args.packet.now c.args.now c.args.self.now _ _ c.take.ensures.told

pub returns-clause-automaton : goal.returns-clause-automaton
returns-clause-automaton c = heard_fsm c.args.packet.now c.args.now c.args.self.now _ _ _ c.take.ensures.new c.take.ensures.told

pub returns-clause-opens : goal.returns-clause-opens
returns-clause-opens c = opens_by c.args.self.now c.take.new.self c.take.result (returns-clause-acts c) (returns-clause-automaton c)
