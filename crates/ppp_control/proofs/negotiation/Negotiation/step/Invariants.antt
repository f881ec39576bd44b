use Rattle.ppp_control.specs.Given.{given}
use Rattle.ppp_control.proofs.ActingLemmas.{IsActing}
use Rattle.ppp_control.proofs.negotiation.Negotiation.step.Given as goal

abbrev pub invariant-acting : goal.invariant-acting
invariant-acting l = IsActing (given l.parts) l.initial.self l.list l.self l.packets l.act-index
