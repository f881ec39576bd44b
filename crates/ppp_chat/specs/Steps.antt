-- A script as one list of steps, which is the code's own form of it.
use Rattle.std.specs.Prelude.{ℕ, Bool, true, false, List, [], ◌∷◌, ◌++◌, map}
use Rattle.ppp_chat.specs.Script.{SendPart, Octets, Delay, Instead, Expected, Item, Directs, Pair}
use Rattle.ppp_chat.specs.Words.{expected_of, instead_of, in_twos}
use Rattle.ppp_chat.specs.declared.directive.Directive.{Directive}
use Rattle.ppp_chat.specs.declared.piece.Piece.{Piece}
use Rattle.ppp_chat.specs.declared.step.Step.{Step}
use Rattle.ppp_chat.specs.declared.step.Step.TheVariants.{Direct, Expect, Met, Send, Pause}

abbrev pub flat_part : SendPart → Step
flat_part (Octets octets) = Send octets
flat_part (Delay milliseconds) = Pause milliseconds

abbrev pub flat_send : List SendPart → List Step
flat_send [] = []
flat_send (part ∷ parts) = flat_part part ∷ flat_send parts

abbrev pub flat_instead : List Instead → List Step
flat_instead [] = Met ∷ []
flat_instead (other ∷ others) = flat_send other.send ++ Expect other.text ∷ flat_instead others

-- The steps of an expect end with `Met`: what follows a string that is met stands behind it, and what follows a timeout directly behind the string.
abbrev pub flat_expect : Expected → List Step
flat_expect expected = Expect expected.text ∷ flat_instead expected.instead

abbrev pub flat_directive : Directive → List Step
flat_directive directive = Direct directive ∷ []

abbrev pub flat_item : Item → List Step
flat_item (Directs directive) = flat_directive directive
flat_item (Pair expected send) = flat_expect expected ++ flat_send send

abbrev pub flat : List Item → List Step
flat [] = []
flat (item ∷ items) = flat_item item ++ flat items

-- The items of steps, from left to right: no item has begun; or a string of an expect was read, what is sent instead and expected then
-- so far, and what was read of the next such send; or an expect was read, and what was read of the send behind it.
pub data Begun : Type 0 where
  NoItem : Begun
  Expects : List ℕ → List Instead → List SendPart → Begun
  Sends : Expected → List SendPart → Begun

-- the item that has begun, where no step is left or another begins
abbrev pub done_before : Begun → List Item → List Item
done_before NoItem items = items
done_before (Expects text others send) items = items
done_before (Sends expected send) items = Pair expected send ∷ items

abbrev pub with_sent : SendPart → Begun → Begun
with_sent part NoItem = NoItem
with_sent part (Expects text others send) = Expects text others (send ++ part ∷ [])
with_sent part (Sends expected send) = Sends expected (send ++ part ∷ [])

abbrev pub with_expect : List ℕ → Begun → Begun
with_expect next NoItem = Expects next [] []
with_expect next (Expects text others send) = Expects text (others ++ record { send = send; text = next } ∷ []) []
with_expect next (Sends expected send) = Expects next [] []

abbrev pub with_met : Begun → Begun
with_met (Expects text others send) = Sends (record { text = text; instead = others }) []
with_met other = other

-- the items that are done when an expect begins, before those behind
abbrev pub done_at_expect : Begun → List Item → List Item
done_at_expect (Sends expected send) items = Pair expected send ∷ items
done_at_expect other items = items

abbrev pub items_from : Begun → List Step → List Item
items_from begun [] = done_before begun []
items_from begun (Direct directive ∷ steps) = done_before begun (Directs directive ∷ items_from NoItem steps)
items_from begun (Expect text ∷ steps) = done_at_expect begun (items_from (with_expect text begun) steps)
items_from begun (Met ∷ steps) = items_from (with_met begun) steps
items_from begun (Send octets ∷ steps) = items_from (with_sent (Octets octets) begun) steps
items_from begun (Pause milliseconds ∷ steps) = items_from (with_sent (Delay milliseconds) begun) steps

abbrev pub items_of : List Step → List Item
items_of steps = items_from NoItem steps

-- the directives among steps
abbrev pub directives_in : List Step → List Directive
directives_in [] = []
directives_in (Direct directive ∷ steps) = directive ∷ directives_in steps
directives_in (Expect text ∷ steps) = directives_in steps
directives_in (Met ∷ steps) = directives_in steps
directives_in (Send octets ∷ steps) = directives_in steps
directives_in (Pause milliseconds ∷ steps) = directives_in steps

-- the steps of the parts of an expect that are left, where the next one is expected, or sent instead
abbrev pub steps_left : Bool → List (List Piece) → List Step
steps_left false parts = flat_expect (expected_of parts)
steps_left true parts = flat_instead (map instead_of (in_twos parts))
