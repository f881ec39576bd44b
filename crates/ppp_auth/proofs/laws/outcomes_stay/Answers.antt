use Rattle.ppp_auth.proofs.EndLemmas.{stays_peer, stays_ours, stays_passed}
use Rattle.ppp_auth.proofs.laws.outcomes_stay.Goals as goal

pub returns : goal.returns
returns c = record {
  peer = stays_peer;
  ours = stays_ours;
  passed = stays_passed;
}
