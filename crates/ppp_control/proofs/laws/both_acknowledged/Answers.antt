use Rattle.ppp_control.proofs.AgreementLemmas.{agreement_so}
use Rattle.ppp_control.proofs.laws.both_acknowledged.Goals as goal

pub returns : goal.returns
returns c = λ start r past n h. agreement_so r n past h
