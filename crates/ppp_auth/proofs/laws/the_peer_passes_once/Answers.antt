use Rattle.ppp_auth.proofs.EndLemmas.{names_are, none_named, peer_named}
use Rattle.ppp_auth.proofs.laws.the_peer_passes_once.Goals as goal

pub returns : goal.returns
returns c = record {
  once = names_are;
  failed = none_named;
  passed = peer_named;
}
