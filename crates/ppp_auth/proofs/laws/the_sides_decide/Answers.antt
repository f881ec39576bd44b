use Rattle.ppp_auth.proofs.EndLemmas.{passed_done, done_passed, peer_failed, failed_peer, we_failed, failed_we, going_on, on_going}
use Rattle.ppp_auth.proofs.laws.the_sides_decide.Goals as goal

pub returns : goal.returns
returns c = record {
  passed = λ s past peer allowed. (passed_done s past peer allowed, done_passed s past peer allowed);
  peer_failed = λ s past. (peer_failed s past, failed_peer s past);
  we_failed = λ s past. (we_failed s past, failed_we s past);
  going = λ s past. (going_on s past, on_going s past);
}
