-- The steps of items, and the items of steps.
use Rattle.std.proofs.Common.{ℕ, ◌≡◌, List, [], ◌∷◌, ◌++◌, refl, sym, ap, ◌∙◌, append_assoc, append-nil}
use Rattle.ppp_chat.specs.Script.{SendPart, Octets, Delay, Instead, Expected, Item, Directs, Pair, directives_of}
use Rattle.ppp_chat.specs.Steps.{flat_send, flat_instead, flat_expect, flat_item, flat, Expects, Sends, items_from, items_of, directives_in}
use Rattle.ppp_chat.specs.declared.directive.Directive.{Directive}
use Rattle.ppp_chat.specs.declared.step.Step.{Step}
use Rattle.ppp_chat.specs.declared.step.Step.TheVariants.{Direct, Expect, Met, Send, Pause}

-- a send instead is read
reads-instead : (text : List ℕ) (others : List Instead) (begun send : List SendPart) (steps : List Step)
    → items_from (Expects text others begun) (flat_send send ++ steps) ≡ items_from (Expects text others (begun ++ send)) steps
reads-instead text others begun [] steps = ap (λ (l : List SendPart). items_from (Expects text others l) steps) (sym (append-nil begun))
reads-instead text others begun (Octets octets ∷ send) steps =
    reads-instead text others (begun ++ Octets octets ∷ []) send steps
    ∙ ap (λ (l : List SendPart). items_from (Expects text others l) steps) (append_assoc begun (Octets octets ∷ []) send)
reads-instead text others begun (Delay milliseconds ∷ send) steps =
    reads-instead text others (begun ++ Delay milliseconds ∷ []) send steps
    ∙ ap (λ (l : List SendPart). items_from (Expects text others l) steps) (append_assoc begun (Delay milliseconds ∷ []) send)

-- the send of a pair is read
reads-send : (expected : Expected) (begun send : List SendPart) (steps : List Step)
    → items_from (Sends expected begun) (flat_send send ++ steps) ≡ items_from (Sends expected (begun ++ send)) steps
reads-send expected begun [] steps = ap (λ (l : List SendPart). items_from (Sends expected l) steps) (sym (append-nil begun))
reads-send expected begun (Octets octets ∷ send) steps =
    reads-send expected (begun ++ Octets octets ∷ []) send steps
    ∙ ap (λ (l : List SendPart). items_from (Sends expected l) steps) (append_assoc begun (Octets octets ∷ []) send)
reads-send expected begun (Delay milliseconds ∷ send) steps =
    reads-send expected (begun ++ Delay milliseconds ∷ []) send steps
    ∙ ap (λ (l : List SendPart). items_from (Sends expected l) steps) (append_assoc begun (Delay milliseconds ∷ []) send)

-- what is sent and expected instead is read
reads-others : (text : List ℕ) (begun others : List Instead) (steps : List Step)
    → items_from (Expects text begun []) (flat_instead others ++ steps) ≡ items_from (Sends (record { text = text; instead = begun ++ others }) []) steps
reads-others text begun [] steps = ap (λ (l : List Instead). items_from (Sends (record { text = text; instead = l }) []) steps) (sym (append-nil begun))
reads-others text begun (other ∷ others) steps =
    ap (λ (l : List Step). items_from (Expects text begun []) l) (append_assoc (flat_send other.send) (Expect other.text ∷ flat_instead others) steps)
    ∙ reads-instead text begun [] other.send (Expect other.text ∷ (flat_instead others ++ steps))
    ∙ reads-others text (begun ++ other ∷ []) others steps
    ∙ ap (λ (l : List Instead). items_from (Sends (record { text = text; instead = l }) []) steps) (append_assoc begun (other ∷ []) others)

-- a pair that was read is one where the items behind it begin
ends-pair : (expected : Expected) (send : List SendPart) (items : List Item)
    → items_from (Sends expected send) (flat items) ≡ Pair expected send ∷ items_of (flat items)
ends-pair expected send [] = refl
ends-pair expected send (Directs directive ∷ items) = refl
ends-pair expected send (Pair other more ∷ items) = refl

reads-pair : (expected : Expected) (send : List SendPart) (items : List Item)
    → items_of (flat (Pair expected send ∷ items)) ≡ Pair expected send ∷ items_of (flat items)
reads-pair expected send items =
    ap (λ (l : List Step). items_from (Expects expected.text [] []) l) (append_assoc (flat_instead expected.instead) (flat_send send) (flat items))
    ∙ reads-others expected.text [] expected.instead (flat_send send ++ flat items)
    ∙ reads-send expected [] send (flat items)
    ∙ ends-pair expected send items

-- The items of the steps of items are those.
pub items-back : (items : List Item) → items_of (flat items) ≡ items
items-back [] = refl
items-back (Directs directive ∷ items) = ap (λ (l : List Item). Directs directive ∷ l) (items-back items)
items-back (Pair expected send ∷ items) = reads-pair expected send items ∙ ap (λ (l : List Item). Pair expected send ∷ l) (items-back items)

-- The steps of items one behind the other.
pub flat-append : (front back : List Item) → flat (front ++ back) ≡ flat front ++ flat back
flat-append [] back = refl
flat-append (item ∷ front) back = ap (λ (l : List Step). flat_item item ++ l) (flat-append front back) ∙ sym (append_assoc (flat_item item) (flat front) (flat back))

pub directives-append : (front back : List Step) → directives_in (front ++ back) ≡ directives_in front ++ directives_in back
directives-append [] back = refl
directives-append (Direct directive ∷ front) back = ap (λ (l : List Directive). directive ∷ l) (directives-append front back)
directives-append (Expect text ∷ front) back = directives-append front back
directives-append (Met ∷ front) back = directives-append front back
directives-append (Send octets ∷ front) back = directives-append front back
directives-append (Pause milliseconds ∷ front) back = directives-append front back

no-directives-in-send : (send : List SendPart) → directives_in (flat_send send) ≡ []
no-directives-in-send [] = refl
no-directives-in-send (Octets octets ∷ send) = no-directives-in-send send
no-directives-in-send (Delay milliseconds ∷ send) = no-directives-in-send send

no-directives-instead : (others : List Instead) → directives_in (flat_instead others) ≡ []
no-directives-instead [] = refl
no-directives-instead (other ∷ others) =
    directives-append (flat_send other.send) (Expect other.text ∷ flat_instead others)
    ∙ ap (λ (l : List Directive). l ++ directives_in (flat_instead others)) (no-directives-in-send other.send)
    ∙ no-directives-instead others

no-directives-in-pair : (expected : Expected) (send : List SendPart) → directives_in (flat_expect expected ++ flat_send send) ≡ []
no-directives-in-pair expected send =
    directives-append (flat_instead expected.instead) (flat_send send)
    ∙ ap (λ (l : List Directive). l ++ directives_in (flat_send send)) (no-directives-instead expected.instead)
    ∙ no-directives-in-send send

-- The directives among the steps of items are those among the items.
pub directives-flat : (items : List Item) → directives_in (flat items) ≡ directives_of items
directives-flat [] = refl
directives-flat (Directs directive ∷ items) = ap (λ (l : List Directive). directive ∷ l) (directives-flat items)
directives-flat (Pair expected send ∷ items) =
    directives-append (flat_expect expected ++ flat_send send) (flat items)
    ∙ ap (λ (l : List Directive). l ++ directives_in (flat items)) (no-directives-in-pair expected send)
    ∙ directives-flat items
