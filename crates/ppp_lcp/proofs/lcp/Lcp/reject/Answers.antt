-- Looking back over the call.
use Rattle.ppp_lcp.proofs.EventLemmas.{rejecting_event, rejecting_acts, rejecting_fsm}
use Rattle.ppp_lcp.proofs.QuietLemmas.{calls_reject, by_own_wish}
use Rattle.ppp_lcp.proofs.lcp.Lcp.reject.Goals as goal

pub returns-clause-calls : goal.returns-clause-calls
returns-clause-calls c wish words past s = by_own_wish wish words past _ _ _ _ _ s (λ t. calls_reject words past _ _ _ _ _ c.send_reject.ensures.new c.send_reject.ensures.told t)

pub returns-clause-event : goal.returns-clause-event
returns-clause-event c = rejecting_event c.args.protocol c.args.information.now c.args.self.now _ c.send_reject.ensures.told

pub returns-clause-acts : goal.returns-clause-acts
returns-clause-acts c = rejecting_acts c.args.protocol c.args.information.now c.args.self.now _ c.send_reject.ensures.told

pub returns-clause-automaton : goal.returns-clause-automaton
returns-clause-automaton c = rejecting_fsm c.args.self.now _ c.send_reject.ensures.new
