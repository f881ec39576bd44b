-- Worked calls of a phase, by the definitions alone.
use Rattle.std.proofs.Common.{◌≡◌, ℕ, true, false, length, List, [], ◌∷◌, ◌++◌, Option, Some, None, refl, codes}
use Rattle.std.specs.Str.{bytes_eq}
use Rattle.ppp_base.specs.declared.allow.Allow.TheVariants as allow
use Rattle.ppp_base.specs.declared.protocol.TheConstants.{PAP, CHAP}
use Rattle.ppp_packet.specs.declared.packet.Packet.{Packet}
use Rattle.ppp_packet.specs.declared.agreed.Method.{Method}
use Rattle.ppp_packet.specs.declared.agreed.Method.TheVariants.{Pap, Chap}
use Rattle.ppp_secrets.specs.SecretLine.{SecretLine}
use Rattle.ppp_secrets.specs.Lookup.{line_for}
use Rattle.ppp_secrets.specs.declared.secrets.SecretsPair.{SecretsPair}
use Rattle.ppp_chap.specs.Packets.{valued_of}
use Rattle.ppp_chap.specs.Passes.{value_of}
use Rattle.ppp_auth.specs.declared.out.PhasePacket.{PhasePacket}
use Rattle.ppp_auth.specs.declared.out.PhaseOut.{PhaseOut}
use Rattle.ppp_auth.specs.declared.outcome.AuthNow.TheVariants.{Going, Passed, PeerFailed, WeFailed}
use Rattle.ppp_auth.specs.Setting.{Setting, PhaseAt, PhaseCall, starts, takes, waits}
use Rattle.ppp_auth.specs.Outcome.{outcome_in}
use Rattle.ppp_auth.specs.Phase.{told_at, nothing}

-- We are srv and log in as us, with this password, to this server.
abbrev pub setting : Option Method → Option Method → Option (List ℕ) → Option (List ℕ) → List ℕ → Setting
setting peer we password remotename challenge = record {
  peer_proves = peer;
  we_prove = we;
  config = record { name = codes "srv"; user = codes "us"; password = password; remotename = remotename };
  challenge = challenge;
}

abbrev pub both : Setting
both = setting (Some Pap) (Some Pap) (Some (codes "pw")) None []

abbrev pub chap : List ℕ → Setting
chap challenge = setting (Some Chap) (Some Chap) None None challenge

-- bob has the secret two for PAP, and word for CHAP; our secrets for the server peer are mine and ours, and for no server none
abbrev pub line : ℕ → List ℕ → List ℕ → List ℕ → SecretLine
line number client server secret = record { number = number; client = client; server = server; secret = secret; addresses = [] }

abbrev pub pair : SecretsPair
pair = record {
  pap = line 2 (codes "bob") (codes "srv") (codes "two") ∷ line 4 (codes "us") (codes "peer") (codes "mine") ∷ [];
  chap = line 3 (codes "bob") (codes "srv") (codes "word") ∷ line 5 (codes "us") (codes "peer") (codes "ours") ∷ [];
}

abbrev pub none : SecretsPair
none = record { pap = []; chap = [] }

abbrev pub at : ℕ → PhaseCall → PhaseAt
at now call = record { now = now; call = call }

abbrev pub packet : ℕ → ℕ → List ℕ → Packet
packet code id body = record { code = code; id = id; body = body }

abbrev pub begun : List PhaseAt
begun = at 0 (starts pair) ∷ []

abbrev pub told : List PhasePacket → Option (List ℕ) → PhaseOut
told packets passed = record { packets = packets; peer_passed = passed }

abbrev pub by_pap : Packet → PhasePacket
by_pap p = record { protocol = 0xc023; packet = p }

abbrev pub by_chap : Packet → PhasePacket
by_chap p = record { protocol = 0xc223; packet = p }

abbrev pub request : List ℕ → PhaseCall
request password = takes PAP (packet 1 5 (3 ∷ codes "bob" ++ 3 ∷ password)) pair

abbrev pub ack : PhaseCall
ack = takes PAP (packet 2 1 (0 ∷ [])) pair

abbrev pub nak : PhaseCall
nak = takes PAP (packet 3 1 (0 ∷ [])) pair

abbrev pub our_request : List ℕ → Packet
our_request password = packet 1 1 (2 ∷ codes "us" ++ 2 ∷ password)

-- as it begins our request goes out, and 3 seconds later again
begins : told_at both (at 0 (starts pair)) [] ≡ told (by_pap (our_request (codes "pw")) ∷ []) None
begins = refl

again : told_at both (at 3000 waits) begun ≡ told (by_pap (our_request (codes "pw")) ∷ []) None
again = refl

-- the peer's right request is acknowledged, and tells its name
peer_passes : told_at both (at 1 (request (codes "two"))) begun ≡ told (by_pap (packet 2 5 (0 ∷ [])) ∷ []) (Some (codes "bob"))
unfolding line_for
peer_passes = refl

-- before the beginning it is discarded
too_soon : told_at both (at 0 (request (codes "two"))) [] ≡ nothing
too_soon = refl

judged_anew : outcome_in both (at 2 ack ∷ at 1 (starts pair) ∷ at 0 (request (codes "two")) ∷ []) ≡ Going
judged_anew = refl

-- both pass, in either order
passed : outcome_in both (at 2 ack ∷ at 1 (request (codes "two")) ∷ begun) ≡ Passed (Some (codes "bob")) (allow.Pap 2)
unfolding line_for
passed = refl

passed_otherwise : outcome_in both (at 2 (request (codes "two")) ∷ at 1 ack ∷ begun) ≡ Passed (Some (codes "bob")) (allow.Pap 2)
unfolding line_for
passed_otherwise = refl

-- one alone doesn't end it
one_alone : outcome_in both (at 1 ack ∷ begun) ≡ Going
one_alone = refl

-- a wrong password, a Nak, and a Nak after a pass
refused : outcome_in both (at 1 (request (codes "twp")) ∷ begun) ≡ PeerFailed
unfolding line_for
refused = refl

we_are_refused : outcome_in both (at 1 nak ∷ begun) ≡ WeFailed
we_are_refused = refl

refused_later : outcome_in both (at 3 nak ∷ at 2 ack ∷ at 1 (request (codes "two")) ∷ begun) ≡ WeFailed
unfolding line_for
refused_later = refl

-- where both still wait after 60 seconds, or the peer alone, the peer has failed; where we alone do, we have
not_yet : outcome_in both (at 59999 waits ∷ begun) ≡ Going
not_yet = refl

over : outcome_in both (at 60000 waits ∷ begun) ≡ PeerFailed
over = refl

over_for_the_peer : outcome_in both (at 60000 waits ∷ at 1 ack ∷ begun) ≡ PeerFailed
over_for_the_peer = refl

over_for_us : outcome_in both (at 60000 waits ∷ at 1 (request (codes "two")) ∷ begun) ≡ WeFailed
unfolding line_for
over_for_us = refl

-- From then on nothing is sent, and nobody passes.
silent : told_at both (at 60000 waits) begun ≡ nothing
silent = refl

passes_no_more : told_at both (at 60001 (request (codes "two"))) (at 60000 waits ∷ begun) ≡ nothing
passes_no_more = refl

-- A judge that had decided before goes on answering.
answered_still : told_at both (at 60001 (request (codes "two"))) (at 60000 waits ∷ at 1 (request (codes "twp")) ∷ begun) ≡ told (by_pap (packet 3 5 (0 ∷ [])) ∷ []) None
unfolding line_for
answered_still = refl

-- A packet that comes after the 60 seconds, but before time has passed, is still heard.
heard_late : outcome_in both (at 70000 (request (codes "two")) ∷ at 1 ack ∷ begun) ≡ Passed (Some (codes "bob")) (allow.Pap 2)
unfolding line_for
heard_late = refl

-- The phase begins once: the first moment counts, and the first secrets.
from_the_first : outcome_in both (at 60000 waits ∷ at 30000 (starts none) ∷ begun) ≡ PeerFailed
from_the_first = refl

-- without a password our secret is that of the secrets; an empty name of the server is none; where there is no secret we have failed
found : told_at (setting (Some Pap) (Some Pap) None (Some (codes "peer")) []) (at 0 (starts pair)) [] ≡ told (by_pap (packet 1 1 (2 ∷ codes "us" ++ 4 ∷ codes "mine")) ∷ []) None
unfolding line_for
found = refl

the_first_secrets : told_at (setting (Some Pap) (Some Pap) None (Some (codes "peer")) []) (at 3001 waits) (at 1 (starts none) ∷ begun) ≡ told (by_pap (packet 1 1 (2 ∷ codes "us" ++ 4 ∷ codes "mine")) ∷ []) None
unfolding line_for
the_first_secrets = refl

not_found : outcome_in (setting (Some Pap) (Some Pap) None None []) begun ≡ WeFailed
unfolding line_for
not_found = refl

empty_server : outcome_in (setting (Some Pap) (Some Pap) None (Some []) []) begun ≡ WeFailed
unfolding line_for
empty_server = refl

-- nobody proves himself
nobody_yet : outcome_in (setting None None None None []) [] ≡ Going
nobody_yet = refl

nobody : outcome_in (setting None None None None []) begun ≡ Passed None allow.Any
nobody = refl

-- a packet of CHAP is not looked at where PAP was agreed, nor one of PAP where CHAP was
not_agreed : told_at both (at 1 (takes CHAP (packet 1 5 (3 ∷ codes "bob" ++ 3 ∷ codes "two")) pair)) begun ≡ nothing
not_agreed = refl

no_pap : (challenge : List ℕ) → told_at (chap challenge) (at 1 (request (codes "two"))) begun ≡ nothing
no_pap challenge = refl

-- The peer by CHAP and we by PAP: its challenge comes before our request.
judge_first : told_at (setting (Some Chap) (Some Pap) (Some (codes "pw")) None (7 ∷ [])) (at 0 (starts pair)) []
    ≡ told (by_chap (packet 1 1 (1 ∷ 7 ∷ codes "srv")) ∷ by_pap (our_request (codes "pw")) ∷ []) None
judge_first = refl

-- both by CHAP: the peer challenges us, and answers our challenge
abbrev pub challenged : PhaseCall
challenged = takes CHAP (packet 1 9 (3 ∷ 1 ∷ 2 ∷ 3 ∷ codes "peer")) pair

abbrev pub success : ℕ → PhaseCall
success id = takes CHAP (packet 3 id []) pair

abbrev pub failure : PhaseCall
failure = takes CHAP (packet 4 9 []) pair

abbrev pub response : List ℕ → PhaseCall
response body = takes CHAP (packet 2 1 body) pair

-- Our answer is by the secret for our name and the challenger's; it is given in every later phase too.
we_answer : (challenge : List ℕ) → told_at (chap challenge) (at 1 challenged) begun
    ≡ told (by_chap (packet 2 9 (length (value_of 9 (codes "ours") (1 ∷ 2 ∷ 3 ∷ [])) ∷ (value_of 9 (codes "ours") (1 ∷ 2 ∷ 3 ∷ []) ++ codes "us"))) ∷ []) None
unfolding line_for
we_answer challenge = refl

-- a response's data is read as a value and a name, and the value is that of the peer's secret
chap_passes : (challenge body value : List ℕ) → valued_of body ≡ Some (value, codes "bob") → bytes_eq value (value_of 1 (codes "word") challenge) ≡ true
    → told_at (chap challenge) (at 1 (response body)) begun ≡ told (by_chap (packet 3 1 []) ∷ []) (Some (codes "bob"))
unfolding line_for
chap_passes challenge body value read right = rw (read, right) refl

chap_passed : (challenge body value : List ℕ) → valued_of body ≡ Some (value, codes "bob") → bytes_eq value (value_of 1 (codes "word") challenge) ≡ true
    → outcome_in (chap challenge) (at 3 (success 9) ∷ at 2 (response body) ∷ at 1 challenged ∷ begun) ≡ Passed (Some (codes "bob")) (allow.Chap 3)
unfolding line_for
chap_passed challenge body value read right = rw (read, right) refl

chap_passed_otherwise : (challenge body value : List ℕ) → valued_of body ≡ Some (value, codes "bob") → bytes_eq value (value_of 1 (codes "word") challenge) ≡ true
    → outcome_in (chap challenge) (at 3 (response body) ∷ at 2 (success 9) ∷ at 1 challenged ∷ begun) ≡ Passed (Some (codes "bob")) (allow.Chap 3)
unfolding line_for
chap_passed_otherwise challenge body value read right = rw (read, right) refl

chap_refused : (challenge body value : List ℕ) → valued_of body ≡ Some (value, codes "bob") → bytes_eq value (value_of 1 (codes "word") challenge) ≡ false
    → outcome_in (chap challenge) (at 1 (response body) ∷ begun) ≡ PeerFailed
unfolding line_for
chap_refused challenge body value read wrong = rw (read, wrong) refl

chap_failed_later : (challenge body value : List ℕ) → valued_of body ≡ Some (value, codes "bob") → bytes_eq value (value_of 1 (codes "word") challenge) ≡ true
    → outcome_in (chap challenge) (at 4 failure ∷ at 3 (success 9) ∷ at 2 (response body) ∷ at 1 challenged ∷ begun) ≡ WeFailed
unfolding line_for
chap_failed_later challenge body value read right = rw (read, right) refl

-- a Failure before any challenge, and a Success of another identifier
ignored : (challenge : List ℕ) → outcome_in (chap challenge) (at 1 failure ∷ begun) ≡ Going
ignored challenge = refl

we_pass : (challenge : List ℕ) → outcome_in (setting None (Some Chap) None None challenge) (at 2 (success 9) ∷ at 1 challenged ∷ begun) ≡ Passed None allow.Any
unfolding line_for
we_pass challenge = refl

another : (challenge : List ℕ) → outcome_in (setting None (Some Chap) None None challenge) (at 2 (success 8) ∷ at 1 challenged ∷ begun) ≡ Going
unfolding line_for
another challenge = refl

-- a challenge for which there is no secret, and one for which there is the option's
no_secret : (challenge : List ℕ) → outcome_in (setting (Some Chap) (Some Chap) None (Some (codes "else")) challenge) (at 1 challenged ∷ begun) ≡ WeFailed
unfolding line_for
no_secret challenge = refl

own_secret : (challenge : List ℕ) → outcome_in (setting None (Some Chap) (Some (codes "pw")) (Some (codes "else")) challenge) (at 2 (success 9) ∷ at 1 challenged ∷ begun) ≡ Passed None allow.Any
own_secret challenge = refl

-- who has not been challenged for 60 seconds has failed
never_challenged : (challenge : List ℕ) → outcome_in (setting None (Some Chap) None None challenge) (at 60000 waits ∷ begun) ≡ WeFailed
never_challenged challenge = refl
