-- Worked rows, by computing with the definitions alone.
use Rattle.std.proofs.Common.{◌≡◌, ℕ, Bool, true, false, List, [], ◌∷◌, ◌++◌, Option, Some, None, replicate, refl}
use Rattle.std.specs.Prelude.{codes, Result, Ok, Err}
use Rattle.std.specs.Option.{option_map}
use Rattle.std.specs.Int.{w32, from_be_bytes}
use Rattle.ppp_words.specs.Steps.{words_of}
use Rattle.ppp_base.specs.declared.allow.Allow.TheVariants.{Any, Pap, Chap}
use Rattle.ppp_secrets.specs.declared.fault.SecretsFault.{SecretsFault}
use Rattle.ppp_secrets.specs.declared.fault.SecretsFault.TheVariants.{BadQuote, FewWords, TooLong, FileSecret, BadAddress}
use Rattle.ppp_secrets.specs.declared.address_word.Cover.TheVariants.{Every, Subnet, Nothing}
use Rattle.ppp_secrets.specs.SecretLine.{SecretLine}
use Rattle.ppp_secrets.specs.AddressWords.{subnet_of, address_word_of}
use Rattle.ppp_base.specs.Numbers.{address_of}
use Rattle.ppp_secrets.specs.Reading.{secrets_of}
use Rattle.ppp_secrets.specs.Lookup.{line_for}
use Rattle.ppp_secrets.specs.Allows.{Allows, pair_allows}

abbrev star_line : SecretLine
star_line = record { number = 1; client = codes "*"; server = codes "srv"; secret = codes "one"; addresses = record { allows = true; cover = Every } ∷ [] }

abbrev bob_line : SecretLine
bob_line = record { number = 2; client = codes "bob"; server = codes "srv"; secret = codes "two"; addresses = record { allows = true; cover = Subnet 167772160 8 } ∷ [] }

abbrev no_address_line : SecretLine
no_address_line = record { number = 3; client = codes "bob"; server = codes "srv"; secret = codes "three"; addresses = record { allows = false; cover = Nothing } ∷ [] }

abbrev three_lines : List SecretLine
three_lines = star_line ∷ bob_line ∷ no_address_line ∷ []

three_lines_are_held : secrets_of (codes "* srv one *\nbob srv two 10.0.0.0/8\nbob srv three -") ≡ Ok three_lines
unfolding secrets_of words_of address_word_of subnet_of address_of
three_lines_are_held = refl

bob_has_line_two : line_for three_lines (codes "bob") (codes "srv") ≡ Some bob_line
unfolding line_for
bob_has_line_two = refl

others_have_line_one : line_for three_lines (codes "eve") (codes "srv") ≡ Some star_line
unfolding line_for
others_have_line_one = refl

none_is_for_another_server : line_for three_lines (codes "srv") (codes "bob") ≡ None
unfolding line_for
none_is_for_another_server = refl

ten_is_allowed : Allows three_lines 2 (from_be_bytes w32 (10 ∷ 1 ∷ 2 ∷ 3 ∷ [])) ≡ true
ten_is_allowed = refl

eleven_is_not : Allows three_lines 2 (from_be_bytes w32 (11 ∷ 0 ∷ 0 ∷ 1 ∷ [])) ≡ false
eleven_is_not = refl

minus_allows_none : Allows three_lines 3 (from_be_bytes w32 (10 ∷ 1 ∷ 2 ∷ 3 ∷ [])) ≡ false
minus_allows_none = refl

two_words_are_few : secrets_of (codes "bob srv") ≡ Err (FewWords 1)
unfolding secrets_of words_of
two_words_are_few = refl

-- the one line of a peer that needs no secret
an_empty_secret : secrets_of (codes "bob srv \"\" *") ≡ Ok (record { number = 1; client = codes "bob"; server = codes "srv"; secret = []; addresses = record { allows = true; cover = Every } ∷ [] } ∷ [])
unfolding secrets_of words_of address_word_of
an_empty_secret = refl

-- the first line with a fault, and on it the first fault
file_before_address : secrets_of (codes "a b @c bad\na") ≡ Err (FileSecret 1)
unfolding secrets_of words_of address_word_of subnet_of address_of
file_before_address = refl

quote_on_line_two : secrets_of (codes "a b c\n'a\nb' c d") ≡ Err (BadQuote 2)
unfolding secrets_of words_of address_word_of subnet_of address_of
quote_on_line_two = refl

address_on_line_three : secrets_of (codes "a b c 001.2.3.4 - 1.2.3.6/31\n\na b c !-") ≡ Err (BadAddress 3)
unfolding secrets_of words_of address_word_of subnet_of address_of
address_on_line_three = refl

-- one word, and two words of which one is too long; three of which one is
one_word_is_few : secrets_of (codes "a") ≡ Err (FewWords 1)
unfolding secrets_of words_of
one_word_is_few = refl

few_before_long : secrets_of (codes "a " ++ replicate 256 97) ≡ Err (FewWords 1)
unfolding secrets_of words_of
few_before_long = refl

a_long_word : secrets_of (codes "a b c " ++ replicate 256 97) ≡ Err (TooLong 1)
unfolding secrets_of words_of address_word_of subnet_of address_of
a_long_word = refl

a_long_secret : secrets_of (codes "a b " ++ replicate 255 97) ≡ Ok (record { number = 1; client = codes "a"; server = codes "b"; secret = replicate 255 97; addresses = [] } ∷ [])
unfolding secrets_of words_of
a_long_secret = refl

-- lines without words are counted and not kept
lines_are_counted : secrets_of (codes "# d e f\n\na b c\n") ≡ Ok (record { number = 3; client = codes "a"; server = codes "b"; secret = codes "c"; addresses = [] } ∷ [])
unfolding secrets_of words_of
lines_are_counted = refl

nothing_is_held : secrets_of [] ≡ Ok []
unfolding secrets_of words_of
nothing_is_held = refl

-- a number has ten digits at most
eleven_digits : secrets_of (codes "a b c 00000000001.2.3.4") ≡ Err (BadAddress 1)
unfolding secrets_of words_of address_word_of subnet_of address_of
eleven_digits = refl

eleven_digits_of_bits : secrets_of (codes "a b c 1.2.3.4/00000000032") ≡ Err (BadAddress 1)
unfolding secrets_of words_of address_word_of subnet_of address_of
eleven_digits_of_bits = refl

thirty_three_bits : secrets_of (codes "a b c 1.2.3.4/33") ≡ Err (BadAddress 1)
unfolding secrets_of words_of address_word_of subnet_of address_of
thirty_three_bits = refl

-- which line of a text is for bob at srv
abbrev line_for_bob : Result (List SecretLine) SecretsFault → Option ℕ
line_for_bob (Ok lines) = option_map (λ line. line.number) (line_for lines (codes "bob") (codes "srv"))
line_for_bob (Err fault) = None

a_star_for_the_server : line_for_bob (secrets_of (codes "bob * one\nbob srv two")) ≡ Some 2
unfolding secrets_of words_of line_for
a_star_for_the_server = refl

one_star_before_two : line_for_bob (secrets_of (codes "* * a\n* srv b")) ≡ Some 2
unfolding secrets_of words_of line_for
one_star_before_two = refl

one_star_before_two_for_the_client : line_for_bob (secrets_of (codes "* * a\nbob * b")) ≡ Some 2
unfolding secrets_of words_of line_for
one_star_before_two_for_the_client = refl

the_first_with_one_star : line_for_bob (secrets_of (codes "bob * one\n* srv two")) ≡ Some 1
unfolding secrets_of words_of line_for
the_first_with_one_star = refl

-- whether the first line of a text allows the address 10.0.0.1
abbrev allows_ten : Result (List SecretLine) SecretsFault → Option Bool
allows_ten (Ok lines) = Some (Allows lines 1 (from_be_bytes w32 (10 ∷ 0 ∷ 0 ∷ 1 ∷ [])))
allows_ten (Err fault) = None

first_minus_before_an_address : allows_ten (secrets_of (codes "a b c - 10.0.0.1")) ≡ Some false
unfolding secrets_of words_of address_word_of subnet_of address_of
first_minus_before_an_address = refl

first_minus_before_a_star : allows_ten (secrets_of (codes "a b c - *")) ≡ Some false
unfolding secrets_of words_of address_word_of subnet_of address_of
first_minus_before_a_star = refl

a_later_minus : allows_ten (secrets_of (codes "a b c 1.2.3.4 - 10.0.0.0/31")) ≡ Some true
unfolding secrets_of words_of address_word_of subnet_of address_of
a_later_minus = refl

refused_first : allows_ten (secrets_of (codes "a b c !10.0.0.0/8 *")) ≡ Some false
unfolding secrets_of words_of address_word_of subnet_of address_of
refused_first = refl

allowed_first : allows_ten (secrets_of (codes "a b c * !10.0.0.0/8")) ≡ Some true
unfolding secrets_of words_of address_word_of subnet_of address_of
allowed_first = refl

another_is_refused : allows_ten (secrets_of (codes "a b c !11.0.0.0/8 *")) ≡ Some true
unfolding secrets_of words_of address_word_of subnet_of address_of
another_is_refused = refl

bits_behind_the_first : allows_ten (secrets_of (codes "a b c 10.9.8.7/8")) ≡ Some true
unfolding secrets_of words_of address_word_of subnet_of address_of
bits_behind_the_first = refl

no_bits : allows_ten (secrets_of (codes "a b c 200.9.8.7/0")) ≡ Some true
unfolding secrets_of words_of address_word_of subnet_of address_of
no_bits = refl

all_bits : allows_ten (secrets_of (codes "a b c 10.0.0.0/32 0000000010.0.0.2")) ≡ Some false
unfolding secrets_of words_of address_word_of subnet_of address_of
all_bits = refl

no_address_words : allows_ten (secrets_of (codes "a b c")) ≡ Some false
unfolding secrets_of words_of address_word_of subnet_of address_of
no_address_words = refl

-- by the file of the peer's way
not_asked : pair_allows [] [] Any 0 ≡ true
not_asked = refl

by_the_lines_of_pap : pair_allows three_lines [] (Pap 2) 167838211 ≡ true
by_the_lines_of_pap = refl

not_by_the_lines_of_chap : pair_allows [] three_lines (Pap 2) 167838211 ≡ false
not_by_the_lines_of_chap = refl

by_the_lines_of_chap : pair_allows [] three_lines (Chap 2) 167838211 ≡ true
by_the_lines_of_chap = refl

not_by_the_lines_of_pap : pair_allows three_lines [] (Chap 2) 167838211 ≡ false
not_by_the_lines_of_pap = refl
