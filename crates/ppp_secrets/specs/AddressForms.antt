-- How an address word is spelled (pppd(8), "Authentication"), and what it means.
use Rattle.std.specs.Prelude.{◌≡◌, ℕ, true, false, List, [], ◌∷◌, ◌++◌, Some}
use Rattle.std.specs.Int.{w32, from_be_bytes}
use Rattle.ppp_base.specs.Numbers.{number_of, address_of}
use Rattle.ppp_base.specs.declared.numbers.LeadingZeros.TheVariants.{Lawful}
use Rattle.ppp_secrets.specs.declared.address_word.Cover.{Cover}
use Rattle.ppp_secrets.specs.declared.address_word.Cover.TheVariants.{Every, Subnet, Nothing}
use Rattle.ppp_secrets.specs.declared.address_word.AddressWord.{AddressWord}

-- which addresses a word covers
pub data CoverForm : Type 0 where
  -- `*`
  Star : CoverForm
  -- `a.b.c.d`
  Alone : List ℕ → CoverForm
  -- `a.b.c.d/n`
  WithBits : List ℕ → List ℕ → CoverForm

-- an address word
pub data WordForm : Type 0 where
  -- `-`
  Minus : WordForm
  -- what is covered is allowed
  Allowed : CoverForm → WordForm
  -- `!` before it: it is not
  Refused : CoverForm → WordForm

abbrev pub cover_spelled : CoverForm → List ℕ
cover_spelled Star = 42 ∷ []
cover_spelled (Alone address) = address
cover_spelled (WithBits address bits) = address ++ 47 ∷ bits

abbrev pub word_spelled : WordForm → List ℕ
word_spelled Minus = 45 ∷ []
word_spelled (Allowed form) = cover_spelled form
word_spelled (Refused form) = 33 ∷ cover_spelled form

-- `*` covers each address, `a.b.c.d` the addresses with all of its 32 bits, `a.b.c.d/n` those with its first n bits, n
-- from 0 to 32. Its four octets are a number whose highest octet is a.
abbrev pub CoverMeans : CoverForm → Cover → Type 0
CoverMeans Star cover = cover ≡ Every
CoverMeans (Alone address) cover = (octets : List ℕ) × (address_of address ≡ Some octets) × (cover ≡ Subnet (from_be_bytes w32 octets) 32)
CoverMeans (WithBits address bits) cover =
    (octets : List ℕ) × (n : ℕ) × (address_of address ≡ Some octets) × (number_of Lawful 0 32 bits ≡ Some n) × (cover ≡ Subnet (from_be_bytes w32 octets) n)

-- `-` covers nothing.
abbrev pub WordMeans : WordForm → AddressWord → Type 0
WordMeans Minus word = word ≡ record { allows = false; cover = Nothing }
WordMeans (Allowed form) word = CoverMeans form word.cover × (word.allows ≡ true)
WordMeans (Refused form) word = CoverMeans form word.cover × (word.allows ≡ false)

-- The octets spell an address word that means this.
pub record SpellsWord (octets : List ℕ) (word : AddressWord) : Type 0 where
  pub form : WordForm
  pub spells : octets ≡ word_spelled form
  pub means : WordMeans form word
