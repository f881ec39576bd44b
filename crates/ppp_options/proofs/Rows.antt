-- The worked rows, of the definitions alone: what words are, by computing.
use Rattle.std.proofs.Common.{◌≡◌, refl, ap, ℕ, zero, suc, ◌<◌, nat_lt, Bool, true, false, List, [], ◌∷◌, length, Option, Some, None, Result, Ok, Err, map, arith}
use Rattle.std.proofs.lemmas.Str.{IsUtf8-from_ascii, utf8_valid_len-IsUtf8}
use Rattle.std.specs.List.{list_all, slice_index}
use Rattle.std.specs.Str.Lossy.{utf8_valid_len}
use Rattle.std.specs.Prelude.{codes}
use Rattle.ppp_base.specs.Numbers.{address_of}
use Rattle.ppp_outside.specs.Files.{NamedFile}
use Rattle.ppp_words.specs.Steps.{front_of, words_of}
use Rattle.ppp_option_words.specs.ConfigValues.{ConfigValues}
use Rattle.ppp_option_words.specs.LinkValues.{LinkValues}
use Rattle.ppp_option_words.specs.Values.{addresses_of}
use Rattle.ppp_option_words.specs.declared.fault.OptionsFault.{OptionsFault}
use Rattle.ppp_option_words.specs.declared.fault.OptionsFault.TheVariants.{Unknown, Missing, BadNumber, OutOfRange, Clash, Depth, BadQuote, TooMany, NoFile, BadScript}
use Rattle.ppp_chat.specs.Script.{ChatScript}
use Rattle.ppp_words.specs.declared.backslash.Backslash.TheVariants.{Kept}
use Rattle.ppp_option_words.specs.Results.{ok_then}
use Rattle.ppp_option_words.specs.declared.kind.Valued.TheVariants.{Text}
use Rattle.ppp_option_words.specs.declared.text.Text.TheVariants.{Socket}
use Rattle.ppp_options.specs.ConfigOf.{ReadOf}
use Rattle.ppp_options.specs.Connect.{connect_read, script_in, unless_wrong}
use Rattle.ppp_options.specs.FileRead.{file_words}
use Rattle.ppp_options.specs.InPlace.{Behind, Broken, Open, in_place}
use Rattle.ppp_options.specs.declared.given.Awaits.TheVariants.{Nothing}

abbrev file : List ℕ → List ℕ → NamedFile
file name octets = record { name = name; octets = octets }

abbrev files : List NamedFile
files =
    file (codes "x") (codes "mru") ∷
    file (codes "open") (codes "'a\nb") ∷
    file (codes "frob") (codes "frob\n'open") ∷
    file (codes "late") (codes "mru\n'open") ∷
    file (codes "f1") (codes "file f2") ∷
    file (codes "f2") (codes "file f3") ∷
    file (codes "f3") (codes "file f4") ∷
    file (codes "f4") (codes "file f5") ∷
    file (codes "f5") (codes "file f6") ∷
    file (codes "f6") (codes "file f7") ∷
    file (codes "f7") (codes "file f8") ∷
    file (codes "f8") (codes "file f9") ∷
    file (codes "f9") (codes "socket a:1") ∷
    file (codes "script") (codes "ABORT BUSY '' ATDT5") ∷
    file (codes "bras") (codes "socket bras:2000\nrequire-chap\nname srv\npersist\nmaxfail 0\nlcp-echo-interval 30\nlcp-echo-failure 4\n10.0.0.1:10.0.0.2\nconnect \"chat -t 20 ABORT BUSY '' ATDT5 CONNECT ''\"") ∷ []

below : (octets : List ℕ) → list_all (λ (octet : ℕ). nat_lt octet 128) octets ≡ true → (i : ℕ) → slice_index octets i < 128
below [] all i = omega arith
below (octet ∷ octets) all zero = grind arith
below (octet ∷ octets) all (suc i) = let rest : list_all (λ (other : ℕ). nat_lt other 128) octets ≡ true = grind arith in below octets rest i

-- octets below 128 are a text
text : (octets : List ℕ) → list_all (λ (octet : ℕ). nat_lt octet 128) octets ≡ true → utf8_valid_len octets ≡ length octets
text octets all = utf8_valid_len-IsUtf8 octets (IsUtf8-from_ascii octets (below octets all))

abbrev links_of : Result ConfigValues OptionsFault → List LinkValues
links_of (Ok config) = config.links
links_of (Err fault) = []

abbrev mrus : Result ConfigValues OptionsFault → List ℕ
mrus read = map (λ (link : LinkValues). link.mru) (links_of read)

abbrev maps : Result ConfigValues OptionsFault → List ℕ
maps read = map (λ (link : LinkValues). link.asyncmap) (links_of read)

abbrev users : Result ConfigValues OptionsFault → List (List ℕ)
users read = map (λ (link : LinkValues). link.user) (links_of read)

abbrev require_paps : Result ConfigValues OptionsFault → List Bool
require_paps read = map (λ (link : LinkValues). link.require_pap) (links_of read)

-- whether the peer must prove itself, whether a new attempt follows, and whether one waits for packets
record Switches : Type 0 where
  auth : Bool
  persist : Bool
  demand : Bool

abbrev switched_so : Bool → Bool → Bool → Switches
switched_so auth persist demand = record { auth = auth; persist = persist; demand = demand }

abbrev switches : Result ConfigValues OptionsFault → List Switches
switches read = map (λ (link : LinkValues). switched_so link.auth link.persist link.demand) (links_of read)

record Sides : Type 0 where
  local : List ℕ
  remote : Option (List ℕ)

abbrev sides_so : List ℕ → Option (List ℕ) → Sides
sides_so local remote = record { local = local; remote = remote }

abbrev sides : Result ConfigValues OptionsFault → List Sides
sides read = map (λ (link : LinkValues). sides_so link.local link.remote) (links_of read)

value_out_of_range : ReadOf (codes "socket" ∷ codes "h:1" ∷ codes "mru" ∷ codes "100" ∷ []) files ≡ Err (OutOfRange (codes "100"))
unfolding addresses_of address_of words_of front_of
value_out_of_range = refl

socket_and_pty : ReadOf (codes "socket" ∷ codes "h:1" ∷ codes "pty" ∷ codes "cat" ∷ []) files ≡ Err (Clash (codes "socket") (codes "pty"))
unfolding addresses_of address_of words_of front_of
socket_and_pty = refl

unknown_word : ReadOf (codes "frob" ∷ []) files ≡ Err (Unknown (codes "frob"))
unfolding addresses_of address_of words_of front_of
unknown_word = refl

no_value : ReadOf (codes "socket" ∷ []) files ≡ Err (Missing (codes "socket"))
unfolding addresses_of address_of words_of front_of
no_value = refl

no_words : ReadOf ([]) files ≡ Err (Missing (codes "socket"))
unfolding addresses_of address_of words_of front_of
no_words = refl

first_fault_is_a_value : ReadOf (codes "mru" ∷ codes "100" ∷ codes "frob" ∷ codes "socket" ∷ codes "h:1" ∷ []) files ≡ Err (OutOfRange (codes "100"))
unfolding addresses_of address_of words_of front_of
first_fault_is_a_value = refl

first_fault_is_a_word : ReadOf (codes "frob" ∷ codes "mru" ∷ codes "100" ∷ []) files ≡ Err (Unknown (codes "frob"))
unfolding addresses_of address_of words_of front_of
first_fault_is_a_word = refl

word_before_clash : ReadOf (codes "socket" ∷ codes "a:1" ∷ codes "pty" ∷ codes "cat" ∷ codes "frob" ∷ []) files ≡ Err (Unknown (codes "frob"))
unfolding addresses_of address_of words_of front_of
word_before_clash = refl

shared_socket_clashes : ReadOf (codes "socket" ∷ codes "a:1" ∷ codes "link" ∷ codes "pty" ∷ codes "cat" ∷ []) files ≡ Err (Clash (codes "socket") (codes "pty"))
unfolding addresses_of address_of words_of front_of
shared_socket_clashes = refl

least_link_is_told : ReadOf (codes "link" ∷ codes "link" ∷ codes "socket" ∷ codes "a:1" ∷ []) files ≡ Err (Missing (codes "socket"))
unfolding addresses_of address_of words_of front_of
least_link_is_told = refl

value_missing_at_the_end : ReadOf (codes "socket" ∷ codes "a:1" ∷ codes "mru" ∷ []) files ≡ Err (Missing (codes "mru"))
unfolding addresses_of address_of words_of front_of
value_missing_at_the_end = refl

a_value_may_be_any_word : ReadOf (codes "mru" ∷ codes "link" ∷ []) files ≡ Err (BadNumber (codes "link"))
unfolding addresses_of address_of words_of front_of
a_value_may_be_any_word = refl

eleven_digits : ReadOf (codes "mru" ∷ codes "00000001400" ∷ []) files ≡ Err (BadNumber (codes "00000001400"))
unfolding addresses_of address_of words_of front_of
eleven_digits = refl

ten_digits : ReadOf (codes "mru" ∷ codes "9999999999" ∷ []) files ≡ Err (OutOfRange (codes "9999999999"))
unfolding addresses_of address_of words_of front_of
ten_digits = refl

empty_number : ReadOf (codes "mru" ∷ codes "" ∷ []) files ≡ Err (BadNumber (codes ""))
unfolding addresses_of address_of words_of front_of
empty_number = refl

empty_word : ReadOf (codes "" ∷ []) files ≡ Err (Unknown (codes ""))
unfolding addresses_of address_of words_of front_of
empty_word = refl

nine_hexadecimal_digits : ReadOf (codes "asyncmap" ∷ codes "123456789" ∷ []) files ≡ Err (BadNumber (codes "123456789"))
unfolding addresses_of address_of words_of front_of
nine_hexadecimal_digits = refl

empty_endpoint : ReadOf (codes "endpoint" ∷ codes "" ∷ []) files ≡ Err (OutOfRange (codes ""))
unfolding addresses_of address_of words_of front_of
empty_endpoint = refl

odd_endpoint : ReadOf (codes "endpoint" ∷ codes "abc" ∷ []) files ≡ Err (BadNumber (codes "abc"))
unfolding addresses_of address_of words_of front_of
odd_endpoint = refl

long_endpoint : ReadOf (codes "endpoint" ∷ codes "000000000000000000000000000000000000000000" ∷ []) files ≡ Err (OutOfRange (codes "000000000000000000000000000000000000000000"))
unfolding addresses_of address_of words_of front_of
long_endpoint = refl

no_addresses : ReadOf (codes ":" ∷ []) files ≡ Err (Unknown (codes ":"))
unfolding addresses_of address_of words_of front_of
no_addresses = refl

address_above_255 : ReadOf (codes "1.2.3.256:" ∷ []) files ≡ Err (Unknown (codes "1.2.3.256:"))
unfolding addresses_of address_of words_of front_of
address_above_255 = refl

seventeenth_link : ReadOf (codes "link" ∷ codes "link" ∷ codes "link" ∷ codes "link" ∷ codes "link" ∷ codes "link" ∷ codes "link" ∷ codes "link" ∷ codes "link" ∷ codes "link" ∷ codes "link" ∷ codes "link" ∷ codes "link" ∷ codes "link" ∷ codes "link" ∷ codes "link" ∷ codes "link" ∷ []) files ≡ Err (TooMany 17)
unfolding addresses_of address_of words_of front_of
seventeenth_link = refl

value_missing_in_a_file : ReadOf (codes "socket" ∷ codes "a:1" ∷ codes "file" ∷ codes "x" ∷ []) files ≡ Err (Missing (codes "mru"))
unfolding addresses_of address_of words_of front_of
value_missing_in_a_file = rw (text (codes "x") refl) refl

open_quote_names_its_line : ReadOf (codes "file" ∷ codes "open" ∷ []) files ≡ Err (BadQuote (codes "open") 1)
unfolding addresses_of address_of words_of front_of
open_quote_names_its_line = rw (text (codes "open") refl) refl

word_before_an_open_quote : ReadOf (codes "file" ∷ codes "frob" ∷ []) files ≡ Err (Unknown (codes "frob"))
unfolding addresses_of address_of words_of front_of
word_before_an_open_quote = rw (text (codes "frob") refl) refl

open_quote_before_a_missing_value : ReadOf (codes "file" ∷ codes "late" ∷ []) files ≡ Err (BadQuote (codes "late") 2)
unfolding addresses_of address_of words_of front_of
open_quote_before_a_missing_value = rw (text (codes "late") refl) refl

no_file : ReadOf (codes "call" ∷ codes "isp" ∷ []) files ≡ Err (NoFile (codes "/etc/ppp/peers/isp"))
unfolding addresses_of address_of words_of front_of
no_file = rw (text (codes "/etc/ppp/peers/isp") refl) refl

program_is_not_chat : ReadOf (codes "connect" ∷ codes "dial x" ∷ []) files ≡ Err (BadScript (codes "dial"))
unfolding addresses_of address_of words_of front_of
program_is_not_chat = refl

timeout_of_0 : ReadOf (codes "connect" ∷ codes "chat -t 0" ∷ []) files ≡ Err (BadScript (codes "-t"))
unfolding addresses_of address_of words_of front_of
timeout_of_0 = refl

timeout_without_value : ReadOf (codes "connect" ∷ codes "chat -t" ∷ []) files ≡ Err (BadScript (codes "-t"))
unfolding addresses_of address_of words_of front_of
timeout_without_value = refl

chat_does_not_dial : ReadOf (codes "connect" ∷ codes "chat -L h:1" ∷ []) files ≡ Err (BadScript (codes "-L"))
unfolding addresses_of address_of words_of front_of
chat_does_not_dial = refl

wrong_word_before_a_file : ReadOf (codes "connect" ∷ codes "chat -q -f nofile" ∷ []) files ≡ Err (BadScript (codes "-q"))
unfolding addresses_of address_of words_of front_of
wrong_word_before_a_file = refl

open_quote_in_connect : ReadOf (codes "connect" ∷ codes "chat 'a" ∷ []) files ≡ Err (BadScript (codes "chat 'a"))
unfolding addresses_of address_of words_of front_of
open_quote_in_connect = refl

script_fault : ReadOf (codes "connect" ∷ codes "chat TIMEOUT 0" ∷ []) files ≡ Err (BadScript (codes "0"))
unfolding addresses_of address_of words_of front_of
script_fault = refl

words_before_link_count_for_all : mrus (ReadOf (codes "mru" ∷ codes "1400" ∷ codes "link" ∷ codes "socket" ∷ codes "a:1" ∷ codes "link" ∷ codes "socket" ∷ codes "b:1" ∷ codes "mru" ∷ codes "1200" ∷ []) files) ≡ 1400 ∷ 1200 ∷ []
unfolding addresses_of address_of words_of front_of
words_before_link_count_for_all = refl

ten_digits_are_read : mrus (ReadOf (codes "mru" ∷ codes "0000001400" ∷ codes "socket" ∷ codes "a:1" ∷ []) files) ≡ 1400 ∷ []
unfolding addresses_of address_of words_of front_of
ten_digits_are_read = refl

value_from_beyond_a_file : mrus (ReadOf (codes "file" ∷ codes "x" ∷ codes "1400" ∷ codes "socket" ∷ codes "a:1" ∷ []) files) ≡ 1400 ∷ []
unfolding addresses_of address_of words_of front_of
value_from_beyond_a_file = rw (text (codes "x") refl) refl

speed_has_no_effect : mrus (ReadOf (codes "115200" ∷ codes "socket" ∷ codes "a:1" ∷ []) files) ≡ 1500 ∷ []
unfolding addresses_of address_of words_of front_of
speed_has_no_effect = refl

asyncmaps_are_joined : maps (ReadOf (codes "socket" ∷ codes "a:1" ∷ codes "asyncmap" ∷ codes "a0000" ∷ codes "asyncmap" ∷ codes "1" ∷ []) files) ≡ 655361 ∷ []
unfolding addresses_of address_of words_of front_of
asyncmaps_are_joined = refl

demand_sets_persist : switches (ReadOf (codes "socket" ∷ codes "a:1" ∷ codes "demand" ∷ []) files) ≡ switched_so false true true ∷ []
unfolding addresses_of address_of words_of front_of
demand_sets_persist = refl

nopersist_clears_persist_alone : switches (ReadOf (codes "socket" ∷ codes "a:1" ∷ codes "demand" ∷ codes "nopersist" ∷ []) files) ≡ switched_so false false true ∷ []
unfolding addresses_of address_of words_of front_of
nopersist_clears_persist_alone = refl

require_chap_sets_auth : switches (ReadOf (codes "socket" ∷ codes "a:1" ∷ codes "require-chap" ∷ []) files) ≡ switched_so true false false ∷ []
unfolding addresses_of address_of words_of front_of
require_chap_sets_auth = refl

noauth_clears_auth_alone : switches (ReadOf (codes "socket" ∷ codes "a:1" ∷ codes "require-pap" ∷ codes "noauth" ∷ []) files) ≡ switched_so false false false ∷ []
unfolding addresses_of address_of words_of front_of
noauth_clears_auth_alone = refl

noauth_leaves_require_pap : require_paps (ReadOf (codes "socket" ∷ codes "a:1" ∷ codes "require-pap" ∷ codes "noauth" ∷ []) files) ≡ true ∷ []
unfolding addresses_of address_of words_of front_of
noauth_leaves_require_pap = refl

remote_set_back : sides (ReadOf (codes "socket" ∷ codes "a:1" ∷ codes "10.0.0.1:10.0.0.2" ∷ codes "10.0.0.3:" ∷ []) files) ≡ sides_so (10 ∷ 0 ∷ 0 ∷ 3 ∷ []) None ∷ []
unfolding addresses_of address_of words_of front_of
remote_set_back = refl

local_set_back : sides (ReadOf (codes "socket" ∷ codes "a:1" ∷ codes "10.0.0.1:10.0.0.2" ∷ codes ":10.0.0.9" ∷ []) files) ≡ sides_so (0 ∷ 0 ∷ 0 ∷ 0 ∷ []) (Some (10 ∷ 0 ∷ 0 ∷ 9 ∷ [])) ∷ []
unfolding addresses_of address_of words_of front_of
local_set_back = refl

user_is_the_name : users (ReadOf (codes "socket" ∷ codes "a:1" ∷ codes "name" ∷ codes "bob" ∷ []) files) ≡ codes "bob" ∷ []
unfolding addresses_of address_of words_of front_of
user_is_the_name = refl

user_is_said : users (ReadOf (codes "socket" ∷ codes "a:1" ∷ codes "user" ∷ codes "al" ∷ codes "name" ∷ codes "bob" ∷ []) files) ≡ codes "al" ∷ []
unfolding addresses_of address_of words_of front_of
user_is_said = refl

sixteen_links : mrus (ReadOf (codes "socket" ∷ codes "a:1" ∷ codes "link" ∷ codes "link" ∷ codes "link" ∷ codes "link" ∷ codes "link" ∷ codes "link" ∷ codes "link" ∷ codes "link" ∷ codes "link" ∷ codes "link" ∷ codes "link" ∷ codes "link" ∷ codes "link" ∷ codes "link" ∷ codes "link" ∷ codes "link" ∷ []) files) ≡ 1500 ∷ 1500 ∷ 1500 ∷ 1500 ∷ 1500 ∷ 1500 ∷ 1500 ∷ 1500 ∷ 1500 ∷ 1500 ∷ 1500 ∷ 1500 ∷ 1500 ∷ 1500 ∷ 1500 ∷ 1500 ∷ []
unfolding addresses_of address_of words_of front_of
sixteen_links = refl

-- where one file more may be nested, and where two may
file_too_deep : (in_place files 1 Nothing (codes "file" ∷ codes "f8" ∷ [])).ending ≡ Broken (Depth (codes "f9"))
unfolding front_of
file_too_deep = rw (text (codes "f8") refl) refl

file_not_too_deep : in_place files 2 Nothing (codes "file" ∷ codes "f8" ∷ []) ≡ record { entries = Behind (Text Socket) (codes "a:1") ∷ []; ending = Open Nothing }
unfolding front_of
file_not_too_deep = rw (text (codes "f8") refl, text (codes "f9") refl) refl

-- what is read of the file behind -f
script_file : file_words Kept files (codes "script") ≡ Ok (codes "ABORT" ∷ codes "BUSY" ∷ [] ∷ codes "ATDT5" ∷ [])
unfolding front_of
script_file = rw (text (codes "script") refl) refl

no_script_file : file_words Kept files (codes "nofile") ≡ Err (NoFile (codes "nofile"))
no_script_file = rw (text (codes "nofile") refl) refl

abbrev read_behind : List (List ℕ) → Option ℕ → Result (List (List ℕ)) OptionsFault → Result ChatScript OptionsFault
read_behind words wrong read = ok_then read (λ (script : List (List ℕ)). unless_wrong words wrong (script_in script 45))

file_before_a_wrong_word : connect_read files (codes "chat -f nofile -q") ≡ Err (NoFile (codes "nofile"))
unfolding words_of
file_before_a_wrong_word = ap (read_behind (codes "-f" ∷ codes "nofile" ∷ codes "-q" ∷ []) (Some 2)) no_script_file

wrong_word_behind_a_file : connect_read files (codes "chat -f script -q") ≡ Err (BadScript (codes "-q"))
unfolding words_of
wrong_word_behind_a_file = ap (read_behind (codes "-f" ∷ codes "script" ∷ codes "-q" ∷ []) (Some 2)) script_file

script_beside_a_file : connect_read files (codes "chat -f script W") ≡ Err (BadScript (codes "W"))
unfolding words_of
script_beside_a_file = ap (read_behind (codes "-f" ∷ codes "script" ∷ codes "W" ∷ []) (Some 2)) script_file

second_file : connect_read files (codes "chat -f script -f script") ≡ Err (BadScript (codes "-f"))
unfolding words_of
second_file = ap (read_behind (codes "-f" ∷ codes "script" ∷ codes "-f" ∷ codes "script" ∷ []) (Some 2)) script_file
