-- A step and the looking back over it agree.
use Rattle.ppp_control.proofs.RulesLemmas.{steps_so}
use Rattle.ppp_control.proofs.laws.steps_look_back.Goals as goal

pub returns : goal.returns
returns c = λ start r past n now call event g. steps_so r past n now call event g
