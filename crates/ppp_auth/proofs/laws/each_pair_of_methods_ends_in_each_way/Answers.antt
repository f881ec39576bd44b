use Rattle.ppp_auth.proofs.Runs.{some_pass, some_peer_fails, some_of_us_fail}
use Rattle.ppp_auth.proofs.laws.each_pair_of_methods_ends_in_each_way.Goals as goal

pub returns : goal.returns
returns c = record {
  passes = some_pass;
  peer_fails = some_peer_fails;
  we_fail = some_of_us_fail;
}
