-- Nothing but the identifiers changes.
use Rattle.ppp_control.proofs.RulesLemmas.{quiet_so, numbered_so}
use Rattle.ppp_control.proofs.laws.calls_without_event_look_back.Goals as goal

pub returns-clause-nothing : goal.returns-clause-nothing
returns-clause-nothing c = λ start r past n now call. quiet_so r past n now call

pub returns-clause-numbered : goal.returns-clause-numbered
returns-clause-numbered c = λ start r past n now call is_echo body. numbered_so r past n now call is_echo body
