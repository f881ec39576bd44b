-- Lists of calls after which each pair of methods has passed or failed.
use Rattle.std.proofs.Common.{◌≡◌, ℕ, true, List, [], ◌∷◌, Option, Some, None, refl, codes, arith}
use Rattle.std.specs.Str.{bytes_eq}
use Rattle.std.proofs.lemmas.Slice.Eq.{bytes_eq-Decides}
use Rattle.ppp_base.specs.declared.allow.Allow.{Allow}
use Rattle.ppp_base.specs.declared.allow.Allow.TheVariants as allow
use Rattle.ppp_packet.specs.declared.agreed.Method.{Method}
use Rattle.ppp_packet.specs.declared.agreed.Method.TheVariants.{Pap, Chap}
use Rattle.ppp_secrets.specs.Lookup.{line_for}
use Rattle.ppp_chap.specs.Packets.{valued_of, valued_body}
use Rattle.ppp_chap.specs.Passes.{value_of}
use Rattle.ppp_chap.proofs.PacketLemmas.{body_is_valued}
use Rattle.ppp_auth.specs.declared.outcome.AuthNow.TheVariants.{Passed, PeerFailed, WeFailed}
use Rattle.ppp_auth.specs.Setting.{Setting, PhaseAt, waits}
use Rattle.ppp_auth.specs.Outcome.{outcome_in}
use Rattle.ppp_auth.specs.Ends.{SomeEnd, SomePass}
use Rattle.ppp_auth.proofs.Rows.{setting, at, begun, request, ack, nak, challenged, success, failure, response}

abbrev setting_for : Option Method → Option Method → List ℕ → Setting
setting_for peer we challenge = setting peer we (Some (codes "pw")) None challenge

-- what one method doesn't look at is a packet for the other
abbrev passing : List ℕ → List PhaseAt
passing body = at 5 (response body) ∷ at 4 (request (codes "two")) ∷ at 3 ack ∷ at 2 (success 9) ∷ at 1 challenged ∷ begun

abbrev name_by : Option Method → Option (List ℕ)
name_by None = None
name_by (Some method) = Some (codes "bob")

abbrev line_by : Option Method → Allow
line_by None = allow.Any
line_by (Some Pap) = allow.Pap 2
line_by (Some Chap) = allow.Chap 3

passes : (peer we : Option Method) (challenge body value : List ℕ) → valued_of body ≡ Some (value, codes "bob") → bytes_eq value (value_of 1 (codes "word") challenge) ≡ true
    → outcome_in (setting_for peer we challenge) (passing body) ≡ Passed (name_by peer) (line_by peer)
unfolding line_for
passes None None challenge body value read right = refl
passes None (Some Pap) challenge body value read right = refl
passes None (Some Chap) challenge body value read right = refl
passes (Some Pap) None challenge body value read right = refl
passes (Some Pap) (Some Pap) challenge body value read right = refl
passes (Some Pap) (Some Chap) challenge body value read right = refl
passes (Some Chap) None challenge body value read right = rw (read, right) refl
passes (Some Chap) (Some Pap) challenge body value read right = rw (read, right) refl
passes (Some Chap) (Some Chap) challenge body value read right = rw (read, right) refl

right_value : (value : List ℕ) → bytes_eq value value ≡ true
right_value value = (bytes_eq-Decides value value).1 refl

pub some_pass : (peer we : Option Method) → SomePass peer we
some_pass peer we = by []
  where
    by : List ℕ → SomePass peer we
    by challenge =
        let value = value_of 1 (codes "word") challenge in
        record {
          name = name_by peer;
          allowed = line_by peer;
          end = record {
            setting = setting_for peer we challenge;
            past = passing (valued_body value (codes "bob"));
            peers = refl;
            ours = refl;
            ends = passes peer we challenge (valued_body value (codes "bob")) value (body_is_valued value (codes "bob") (omega arith)) (right_value value);
          };
        }

peer_late : (peer : Method) (we : Option Method) → outcome_in (setting_for (Some peer) we []) (at 60000 waits ∷ begun) ≡ PeerFailed
peer_late Pap None = refl
peer_late Pap (Some Pap) = refl
peer_late Pap (Some Chap) = refl
peer_late Chap None = refl
peer_late Chap (Some Pap) = refl
peer_late Chap (Some Chap) = refl

pub some_peer_fails : (peer : Method) (we : Option Method) → SomeEnd (Some peer) we PeerFailed
some_peer_fails peer we = record {
  setting = setting_for (Some peer) we [];
  past = at 60000 waits ∷ begun;
  peers = refl;
  ours = refl;
  ends = peer_late peer we;
}

-- a Nak by PAP, a Failure by CHAP
abbrev failing : List PhaseAt
failing = at 3 nak ∷ at 2 failure ∷ at 1 challenged ∷ begun

we_refused : (peer : Option Method) (we : Method) → outcome_in (setting_for peer (Some we) []) failing ≡ WeFailed
we_refused None Pap = refl
we_refused None Chap = refl
we_refused (Some Pap) Pap = refl
we_refused (Some Pap) Chap = refl
we_refused (Some Chap) Pap = refl
we_refused (Some Chap) Chap = refl

pub some_of_us_fail : (peer : Option Method) (we : Method) → SomeEnd peer (Some we) WeFailed
some_of_us_fail peer we = record {
  setting = setting_for peer (Some we) [];
  past = failing;
  peers = refl;
  ours = refl;
  ends = we_refused peer we;
}
