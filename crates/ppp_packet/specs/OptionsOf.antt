-- The octets of options (RFC 1661, section 6): type, length and data, one option after the other.
use Rattle.std.specs.Prelude.{◌≡◌, ℕ, ◌+◌, ◌<◌, ◌≤◌, List, [], ◌∷◌, ◌++◌, length}
use Rattle.ppp_packet.specs.declared.fault.OptionFault.{OptionFault}
use Rattle.ppp_packet.specs.declared.fault.OptionFault.TheVariants.{Cut, BadLength}

-- an option: its type and its data
pub record Item : Type 0 where
  pub kind : ℕ
  pub body : List ℕ

abbrev pub item : ℕ → List ℕ → Item
item kind body = record { kind = kind; body = body }

-- an option's octets: its length counts the two octets before the data
abbrev pub laid_item : Item → List ℕ
laid_item i = i.kind ∷ (length i.body + 2) ∷ i.body

-- options laid one after the other
abbrev pub laid : List Item → List ℕ
laid [] = []
laid (i ∷ items) = laid_item i ++ laid items

-- the octets are these options
pub record OptionsOf (octets : List ℕ) (items : List Item) : Type 0 where
  pub are : octets ≡ laid items

-- What begins here is no option: its octets end early, or its length is below 2.
abbrev pub IsFault : OptionFault → List ℕ → Type 0
IsFault Cut [] = ⊥
IsFault Cut (kind ∷ []) = Unit {0}
IsFault Cut (kind ∷ size ∷ rest) = (2 ≤ size) × (length rest + 2 < size)
IsFault BadLength [] = ⊥
IsFault BadLength (kind ∷ []) = ⊥
IsFault BadLength (kind ∷ size ∷ rest) = size < 2

-- behind whole options comes this fault, the first in order
pub record FaultOf (octets : List ℕ) (fault : OptionFault) : Type 0 where
  pub items : List Item
  pub rest : List ℕ
  pub are : octets ≡ laid items ++ rest
  pub begins : IsFault fault rest
