-- What an address word of a secrets line is (pppd(8), "Authentication"), as it is read. How one is spelled, and what it
-- means then, is said by `SpellsWord`.
use Rattle.std.specs.Prelude.{ℕ, ◌==◌, true, false, List, [], ◌∷◌, if◌then◌else◌, Option, Some, None}
use Rattle.std.specs.List.{slice_split}
use Rattle.std.specs.Option.{option_map, option_and_then}
use Rattle.std.specs.Str.{bytes_eq}
use Rattle.std.specs.Int.{w32, from_be_bytes}
use Rattle.ppp_base.specs.Numbers.{number_of, address_of}
use Rattle.ppp_base.specs.declared.numbers.LeadingZeros.TheVariants.{Lawful}
use Rattle.ppp_secrets.specs.declared.address_word.Cover.{Cover}
use Rattle.ppp_secrets.specs.declared.address_word.Cover.TheVariants.{Every, Subnet, Nothing}
use Rattle.ppp_secrets.specs.declared.address_word.AddressWord.{AddressWord}

-- a.b.c.d as a number whose highest octet is a
abbrev pub network_of : List ℕ → Option ℕ
network_of octets = option_map (from_be_bytes w32) (address_of octets)

-- the parts between the slashes of a.b.c.d/n, of which n is 32 where it is left out
abbrev pub subnet_at : List (List ℕ) → Option Cover
subnet_at [] = None
subnet_at (address ∷ []) = option_map (λ network. Subnet network 32) (network_of address)
subnet_at (address ∷ bits ∷ []) = option_and_then (λ network. option_map (Subnet network) (number_of Lawful 0 32 bits)) (network_of address)
subnet_at (address ∷ bits ∷ more ∷ parts) = None

-- a.b.c.d or a.b.c.d/n
unfoldable pub subnet_of : List ℕ → Option Cover
subnet_of octets = subnet_at (slice_split (λ octet. octet == 47) octets)

-- * or a subnet
abbrev pub cover_of : List ℕ → Option Cover
cover_of octets = if bytes_eq octets (42 ∷ []) then Some Every else subnet_of octets

-- a word, whose first octet may be !
abbrev pub signed_of : List ℕ → Option AddressWord
signed_of [] = None
signed_of (octet ∷ octets) =
    if octet == 33 then option_map (λ cover. record { allows = false; cover = cover }) (cover_of octets)
    else option_map (λ cover. record { allows = true; cover = cover }) (cover_of (octet ∷ octets))

-- the address word that the octets are, if they are one
unfoldable pub address_word_of : List ℕ → Option AddressWord
address_word_of octets =
    if bytes_eq octets (45 ∷ []) then Some (record { allows = false; cover = Nothing }) else signed_of octets
