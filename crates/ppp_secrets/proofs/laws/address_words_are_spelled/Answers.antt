use Rattle.ppp_secrets.proofs.AddressLemmas.{words_spelled}
use Rattle.ppp_secrets.proofs.laws.address_words_are_spelled.Goals as goal

pub returns : goal.returns
returns c = words_spelled
