use Rattle.ppp_report.proofs.AgainLemmas.{text_same}
use Rattle.ppp_report.proofs.laws.again.Goals as goal

pub returns : goal.returns
returns c = λ a b f g e. text_same a b f g e
