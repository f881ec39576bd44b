-- The answer to a Configure-Request, from what is thought of each of its options (RFC 1661, sections 5.2 to 5.4).
use Rattle.std.specs.Prelude.{ℕ, ◌+◌, ◌-◌, nat_le, Bool, true, false, if◌then◌else◌, List, [], ◌∷◌, length, filter, map}
use Rattle.ppp_packet.specs.declared.body.TheConstants.{MOST_BODY}
use Rattle.ppp_packet.specs.OptionsOf.{Item, item}

-- An option is acknowledged, or named with other data, or rejected.
pub data Judgement : Type 0 where
  acks : Judgement
  names : List ℕ → Judgement
  rejects : Judgement

abbrev pub is_rejected : Judgement → Bool
is_rejected acks = false
is_rejected (names value) = false
is_rejected rejects = true

abbrev pub is_named : Judgement → Bool
is_named acks = false
is_named (names value) = true
is_named rejects = false

abbrev pub value_in : Judgement → List ℕ
value_in acks = []
value_in (names value) = value
value_in rejects = []

-- those that are rejected, those that are named, as they came, and those with the data that they are named with
abbrev pub rejected : (Item → Judgement) → List Item → List Item
rejected judge items = filter (λ i. is_rejected (judge i)) items

abbrev pub named : (Item → Judgement) → List Item → List Item
named judge items = filter (λ i. is_named (judge i)) items

abbrev pub renamed : (Item → Judgement) → List Item → List Item
renamed judge items = map (λ i. item i.kind (value_in (judge i))) (named judge items)

-- the items before the first with which they would take more than this room
abbrev pub fitting : ℕ → List Item → List Item
fitting room [] = []
fitting room (i ∷ items) = if nat_le (length i.body + 2) room then i ∷ fitting (room - (length i.body + 2)) items else []

-- An answer to a request.
pub data Answer : Type 0 where
  acknowledges : Answer
  suggests : List Item → Answer
  refuses : List Item → Answer

abbrev pub named_or : Bool → List Item → List Item → Answer
named_or spent [] values = acknowledges
named_or true (i ∷ items) values = refuses (i ∷ items)
named_or false (i ∷ items) values = suggests (fitting MOST_BODY values)

abbrev pub rejected_or : List Item → Answer → Answer
rejected_or [] other = other
rejected_or (i ∷ items) other = refuses (i ∷ items)

-- A Reject of all that are rejected; if none is, a Nak of all that are named, or, once the Naks are spent, a Reject of those as they came; else an Ack.
unfoldable pub answer_to : (Item → Judgement) → Bool → List Item → Answer
answer_to judge spent items = rejected_or (rejected judge items) (named_or spent (named judge items) (renamed judge items))
