-- What changes our request in a negotiation (RFC 1661, sections 5.3 and 5.4).
use Rattle.std.specs.Prelude.{ℕ, ◌==◌, ◌||◌, Bool, false, if◌then◌else◌, Option, Some, None, List, [], ◌∷◌}
use Rattle.ppp_packet.specs.OptionsOf.{Item, item}

-- A Nak or a Reject of our last request; and, since a protocol may draw what it names, a Nak that we sent. A list of changes has the newest first.
pub data Change : Type 0 where
  by_nak : List Item → Change
  by_reject : List Item → Change
  by_our_nak : List Item → Change

-- whether an option of this type is among the items
abbrev pub names_kind : ℕ → List Item → Bool
names_kind kind [] = false
names_kind kind (i ∷ items) = i.kind == kind || names_kind kind items

-- Whether some Reject names an option: it is left out from then on.
abbrev pub is_left_out : ℕ → List Change → Bool
is_left_out kind [] = false
is_left_out kind (by_nak items ∷ changes) = is_left_out kind changes
is_left_out kind (by_reject items ∷ changes) = names_kind kind items || is_left_out kind changes
is_left_out kind (by_our_nak items ∷ changes) = is_left_out kind changes

-- What each Nak named, the newest first; of two in one Nak the later is the newer.
abbrev pub items_onto : List Item → List Item → List Item
items_onto [] named = named
items_onto (i ∷ items) named = items_onto items (i ∷ named)

abbrev pub named_in : List Change → List Item
named_in [] = []
named_in (by_nak items ∷ changes) = items_onto items (named_in changes)
named_in (by_reject items ∷ changes) = named_in changes
named_in (by_our_nak items ∷ changes) = named_in changes

-- an option, where it is asked for
abbrev pub asked_if : Bool → ℕ → List ℕ → List Item
asked_if test kind body = if test then item kind body ∷ [] else []

-- the data of the last option of a type: of two of one type the later holds
abbrev pub last_from : Option (List ℕ) → ℕ → List Item → Option (List ℕ)
last_from found kind [] = found
last_from found kind (i ∷ items) = last_from (if i.kind == kind then Some i.body else found) kind items

abbrev pub last_body : ℕ → List Item → Option (List ℕ)
last_body kind items = last_from None kind items
