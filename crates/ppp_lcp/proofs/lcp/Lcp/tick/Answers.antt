-- Looking back over the call, and what it leaves.
use Rattle.ppp_lcp.proofs.EventLemmas.{ticked_event, ticked_acts, ticked_fsm, opens_by}
use Rattle.ppp_lcp.proofs.QuietLemmas.{calls_tick, by_own_wish}
use Rattle.ppp_lcp.proofs.lcp.Lcp.tick.Goals as goal

pub returns-clause-calls : goal.returns-clause-calls
returns-clause-calls c wish words past s = by_own_wish wish words past _ _ _ _ _ s (λ t. calls_tick words past _ _ _ _ c.look.ensures.new c.look.ensures.told t)

pub returns-clause-event : goal.returns-clause-event
returns-clause-event c = ticked_event c.args.now c.args.self.now _ c.look.ensures.told

pub returns-clause-acts : goal.returns-clause-acts
returns-clause-acts c = ticked_acts c.args.now c.args.self.now _ c.look.ensures.told

pub returns-clause-automaton : goal.returns-clause-automaton
returns-clause-automaton c = ticked_fsm c.args.now c.args.self.now _ _ c.look.ensures.new c.look.ensures.told

pub returns-clause-opens : goal.returns-clause-opens
returns-clause-opens c = opens_by c.args.self.now c.look.new.self c.look.result (returns-clause-acts c) (returns-clause-automaton c)
