use Rattle.ppp_auth.proofs.BeforeLemmas.{nothing_told, unbegun_goes}
use Rattle.ppp_auth.proofs.laws.nothing_before_the_beginning.Goals as goal

pub returns : goal.returns
returns c = record {
  told = nothing_told;
  outcome = unbegun_goes;
}
