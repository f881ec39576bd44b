-- Looking back over the event, and what it leaves.
use Rattle.ppp_fsm.specs.declared.event.FsmEvent.TheVariants.{Down}
use Rattle.ppp_control.specs.Rules.{goes_down}
use Rattle.ppp_lcp.proofs.EventLemmas.{left_fsm, opens_at}
use Rattle.ppp_lcp.proofs.QuietLemmas.{calls_alone, by_own_wish}
use Rattle.ppp_lcp.proofs.lcp.Lcp.down.Goals as goal

pub returns-clause-calls : goal.returns-clause-calls
returns-clause-calls c wish words past s = by_own_wish wish words past _ _ _ _ _ s (λ t. calls_alone words past _ goes_down _ _ _ c.event.ensures.new c.event.ensures.told t)

pub returns-clause-automaton : goal.returns-clause-automaton
returns-clause-automaton c = left_fsm Down c.args.now c.args.self.now _ c.event.ensures.new

pub returns-clause-opens : goal.returns-clause-opens
returns-clause-opens c = opens_at Down c.args.now c.args.self.now _ _ c.event.ensures.new c.event.ensures.told
