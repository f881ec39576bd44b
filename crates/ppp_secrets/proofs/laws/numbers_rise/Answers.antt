use Rattle.ppp_secrets.proofs.HoldsLemmas.{holds_rising}
use Rattle.ppp_secrets.proofs.laws.numbers_rise.Goals as goal

pub returns : goal.returns
returns c = holds_rising
