-- Worked rows, by computing with the definitions alone.
use Rattle.std.proofs.Common.{◌≡◌, ℕ, List, [], ◌∷◌, ◌++◌, None, Some, refl}
use Rattle.std.specs.Prelude.{codes}
use Rattle.ppp_packet.specs.declared.packet.Packet.{Packet}
use Rattle.ppp_packet.specs.declared.auth_out.AuthOutcome.TheVariants.{Passed, Refused}
use Rattle.ppp_packet.specs.PacketOf.{laid_packet}
use Rattle.ppp_secrets.specs.SecretLine.{SecretLine}
use Rattle.ppp_secrets.specs.Lookup.{line_for}
use Rattle.ppp_proving.specs.Calls.{Against, hears}
use Rattle.ppp_pap.specs.Packets.{answer_packet, request_of, request_packet}
use Rattle.ppp_pap.specs.Judge.{said_by, sends}

abbrev line : ℕ → List ℕ → List ℕ → SecretLine
line number client secret = record { number = number; client = client; server = codes "srv"; secret = secret; addresses = [] }

-- three lines, of which the second is bob's
abbrev three : Against
three = record { lines = line 1 (codes "*") (codes "one") ∷ line 2 (codes "bob") (codes "two") ∷ line 3 (codes "bob") (codes "three") ∷ []; server = codes "srv" }

-- one line with an empty secret
abbrev empty : Against
empty = record { lines = line 1 (codes "bob") [] ∷ []; server = codes "srv" }

abbrev request : List ℕ → Packet
request password = record { code = 1; id = 1; body = 3 ∷ codes "bob" ++ 3 ∷ password }

the_request : laid_packet (request_packet (codes "bob") (codes "two")) ≡ 1 ∷ 1 ∷ 0 ∷ 12 ∷ 3 ∷ 98 ∷ 111 ∷ 98 ∷ 3 ∷ 116 ∷ 119 ∷ 111 ∷ []
the_request = refl

two_passes : said_by (hears (request (codes "two")) three) ≡ Passed (codes "bob") 2
unfolding line_for
two_passes = refl

twp_does_not : said_by (hears (request (codes "twp")) three) ≡ Refused (codes "bob")
unfolding line_for
twp_does_not = refl

any_passes_an_empty_secret : said_by (hears (request (codes "two")) empty) ≡ Passed (codes "bob") 1
unfolding line_for
any_passes_an_empty_secret = refl

the_other_passes_it_too : said_by (hears (request (codes "twp")) empty) ≡ Passed (codes "bob") 1
unfolding line_for
the_other_passes_it_too = refl

passed_is_acknowledged : sends (hears (request (codes "two")) three) (Passed (codes "bob") 2) ≡ Some (answer_packet 2 1)
passed_is_acknowledged = refl

refused_is_not : sends (hears (request (codes "twp")) three) (Refused (codes "bob")) ≡ Some (answer_packet 3 1)
refused_is_not = refl

an_ack : laid_packet (answer_packet 2 1) ≡ 2 ∷ 1 ∷ 0 ∷ 5 ∷ 0 ∷ []
an_ack = refl

a_nak : laid_packet (answer_packet 3 1) ≡ 3 ∷ 1 ∷ 0 ∷ 5 ∷ 0 ∷ []
a_nak = refl

-- what isn't filled exactly is none
no_octet : request_of [] ≡ None
no_octet = refl

no_password : request_of (3 ∷ codes "bob") ≡ None
no_password = refl

password_short : request_of (3 ∷ codes "bob" ++ 3 ∷ codes "tw") ≡ None
password_short = refl

password_long : request_of (3 ∷ codes "bob" ++ 3 ∷ codes "twoo") ≡ None
password_long = refl
