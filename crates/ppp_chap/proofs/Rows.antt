-- Worked rows, by computing with the definitions alone.
use Rattle.std.proofs.Common.{List, ◌≡◌, [], ◌∷◌, None, Some, refl}
use Rattle.std.specs.Prelude.{codes}
use Rattle.md5.specs.Md5.{block_words, rounds, compress, hash_after, digest_bytes, md5}
use Rattle.ppp_packet.specs.PacketOf.{laid_packet}
use Rattle.ppp_chap.specs.Packets.{challenge_packet, result_packet, valued_of}
use Rattle.ppp_chap.specs.Passes.{value_of}
use Rattle.ppp_chap.specs.Peer.{secret_for}
use Rattle.ppp_secrets.specs.Lookup.{line_for}
use Rattle.ppp_secrets.specs.SecretLine.{SecretLine}

the_value : value_of 0x61 (codes "b") (codes "c") ≡ 0x90 ∷ 0x01 ∷ 0x50 ∷ 0x98 ∷ 0x3c ∷ 0xd2 ∷ 0x4f ∷ 0xb0 ∷ 0xd6 ∷ 0x96 ∷ 0x3f ∷ 0x7d ∷ 0x28 ∷ 0xe1 ∷ 0x7f ∷ 0x72 ∷ []
unfolding block_words rounds compress hash_after digest_bytes md5
the_value = refl

a_success : laid_packet (result_packet 3 1) ≡ 3 ∷ 1 ∷ 0 ∷ 4 ∷ []
a_success = refl

a_challenge : laid_packet (challenge_packet (1 ∷ 2 ∷ 3 ∷ 4 ∷ 5 ∷ 6 ∷ 7 ∷ 8 ∷ 9 ∷ 10 ∷ 11 ∷ 12 ∷ 13 ∷ 14 ∷ 15 ∷ 16 ∷ []) (codes "srv"))
    ≡ 1 ∷ 1 ∷ 0 ∷ 24 ∷ 16 ∷ 1 ∷ 2 ∷ 3 ∷ 4 ∷ 5 ∷ 6 ∷ 7 ∷ 8 ∷ 9 ∷ 10 ∷ 11 ∷ 12 ∷ 13 ∷ 14 ∷ 15 ∷ 16 ∷ 115 ∷ 114 ∷ 118 ∷ []
a_challenge = refl

-- a size of 0 is lawful, one past the end isn't
size_nought : valued_of (0 ∷ codes "srv") ≡ Some ([], codes "srv")
size_nought = refl

size_too_great : valued_of (4 ∷ codes "srv") ≡ None
size_too_great = refl

no_octet : valued_of [] ≡ None
no_octet = refl

-- The secret is that of the line for the server that is named by the option, and else for the one that the challenge names.
abbrev two_lines : List SecretLine
two_lines =
    record { number = 1; client = codes "bob"; server = codes "srv"; secret = codes "one"; addresses = [] }
    ∷ record { number = 2; client = codes "bob"; server = codes "eve"; secret = codes "two"; addresses = [] }
    ∷ []

by_option : secret_for None (codes "bob") (record { lines = two_lines; server = codes "srv" }) (codes "eve") ≡ Some (codes "one")
unfolding line_for
by_option = refl

by_challenge : secret_for None (codes "bob") (record { lines = two_lines; server = [] }) (codes "eve") ≡ Some (codes "two")
unfolding line_for
by_challenge = refl

by_password : secret_for (Some (codes "pw")) (codes "bob") (record { lines = two_lines; server = [] }) (codes "eve") ≡ Some (codes "pw")
by_password = refl
