-- Which addresses a line of a secrets file allows (pppd(8), "Authentication").
use Rattle.std.specs.Prelude.{ℕ, ◌-◌, ◌/◌, ◌^◌, ◌==◌, Bool, true, false, if◌then◌else◌, List, [], ◌∷◌, Option, Some, None}
use Rattle.std.specs.List.{find}
use Rattle.std.specs.Option.{option_map_or}
use Rattle.ppp_base.specs.declared.allow.Allow.{Allow}
use Rattle.ppp_base.specs.declared.allow.Allow.TheVariants.{Any, Pap, Chap}
use Rattle.ppp_secrets.specs.declared.address_word.Cover.{Cover}
use Rattle.ppp_secrets.specs.declared.address_word.Cover.TheVariants.{Every, Subnet, Nothing}
use Rattle.ppp_secrets.specs.declared.address_word.AddressWord.{AddressWord}
use Rattle.ppp_secrets.specs.SecretLine.{SecretLine, line_numbered}

-- A subnet of n bits covers the addresses with the same first n bits.
abbrev pub covers : ℕ → Cover → Bool
covers address Every = true
covers address (Subnet network bits) = address / 2 ^ (32 - bits) == network / 2 ^ (32 - bits)
covers address Nothing = false

-- the first word that covers an address decides
abbrev pub decided : Option AddressWord → Bool
decided None = false
decided (Some word) = word.allows

-- whether a word is -
abbrev pub is_nothing : Cover → Bool
is_nothing Every = false
is_nothing (Subnet network bits) = false
is_nothing Nothing = true

-- whether the first word is -
abbrev pub begins_with_none : List AddressWord → Bool
begins_with_none [] = false
begins_with_none (word ∷ words) = is_nothing word.cover

-- Where the first word is - no address is allowed; else the first word that covers the address decides.
abbrev pub allowed : List AddressWord → ℕ → Bool
allowed words address = if begins_with_none words then false else decided (find (λ word. covers address word.cover) words)

-- whether the line with this number, if there is one, allows the address
abbrev pub Allows : List SecretLine → ℕ → ℕ → Bool
Allows lines number address = option_map_or (λ line. allowed line.addresses address) (line_numbered number lines) false

-- Whether a peer may have the address: any, where it was not asked to prove itself, else those of its line in the
-- secrets of PAP or in those of CHAP.
abbrev pub pair_allows : List SecretLine → List SecretLine → Allow → ℕ → Bool
pair_allows pap chap Any address = true
pair_allows pap chap (Pap number) address = Allows pap number address
pair_allows pap chap (Chap number) address = Allows chap number address
