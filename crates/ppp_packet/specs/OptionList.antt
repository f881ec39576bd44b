-- The options that octets are, as a function of the octets.
use Rattle.std.specs.Prelude.{◌≡◌, ℕ, ◌-◌, nat_eq, if◌then◌else◌, Option, Some, None, List, [], ◌∷◌, take, drop}
use Rattle.std.specs.Cmp.Lexicographic.{pointwise}
use Rattle.ppp_packet.specs.OptionsOf.{Item, item, laid}

-- `fuel` is a list as long as the octets or longer
abbrev pub items_by : List ℕ → List ℕ → List Item
items_by [] octets = []
items_by (_ ∷ fuel) [] = []
items_by (_ ∷ fuel) (kind ∷ []) = []
items_by (_ ∷ fuel) (kind ∷ size ∷ rest) = item kind (take (size - 2) rest) ∷ items_by fuel (drop (size - 2) rest)

unfoldable pub items_of : List ℕ → List Item
items_of octets = items_by octets octets

-- the octets are some options
pub record IsLaid (octets : List ℕ) : Type 0 where
  pub are : laid (items_of octets) ≡ octets

-- the options that octets are, if they are some: laying what they begin with gives the octets again
unfoldable pub read_options : List ℕ → Option (List Item)
read_options octets = if pointwise nat_eq (laid (items_of octets)) octets then Some (items_of octets) else None
