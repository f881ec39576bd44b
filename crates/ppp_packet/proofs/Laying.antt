-- Laying items one after the other, and finding them again.
use Rattle.std.proofs.Common.{◌≡◌, ℕ, ◌+◌, ◌-◌, ◌≤◌, List, [], ◌∷◌, ◌++◌, length, take, drop, refl, ap, sym, ◌∙◌, subst, append_assoc, arith, length-append, length-take, zero, suc, Some, slice_get, ◌*◌, add-one, length-drop}
use Rattle.std.proofs.lemmas.Grind.{common_steps}
use Rattle.ppp_packet.specs.OptionsOf.{Item, laid_item, laid, IsFault}
use Rattle.ppp_packet.specs.OptionList.{items_by, items_of, IsLaid}
use Rattle.ppp_packet.specs.declared.fault.OptionFault.{OptionFault}
use Rattle.ppp_packet.specs.declared.fault.OptionFault.TheVariants.{Cut, BadLength}

-- Some items come before what is left.
pub record IsBehind (octets left : List ℕ) : Type 0 where
  pub items : List Item
  pub are : octets ≡ laid items ++ left

pub take-front : (xs ys : List ℕ) → take (length xs) (xs ++ ys) ≡ xs
take-front [] ys = grind (arith, common_steps)
take-front (x ∷ xs) ys = ap (λ zs. x ∷ zs) (take-front xs ys)

pub drop-front : (xs ys : List ℕ) → drop (length xs) (xs ++ ys) ≡ ys
drop-front [] ys = grind (arith, common_steps)
drop-front (x ∷ xs) ys = drop-front xs ys

-- two more, and two less
pub two : (n : ℕ) → n + 2 - 2 ≡ n
two n = omega arith

-- an item in front is found first
found-first : (fuel : List ℕ) (a : ℕ) (i : Item) (rest : List ℕ) → items_by (a ∷ fuel) (laid_item i ++ rest) ≡ i ∷ items_by fuel rest
found-first fuel a i rest = rw (two (length i.body), take-front i.body rest, drop-front i.body rest) refl

pub items_by-laid : (fuel : List ℕ) (items : List Item) → length (laid items) ≤ length fuel → items_by fuel (laid items) ≡ items
items_by-laid [] [] h = refl
items_by-laid (a ∷ fuel) [] h = refl
items_by-laid [] (i ∷ items) h = absurd (omega arith)
items_by-laid (a ∷ fuel) (i ∷ items) h = found-first fuel a i (laid items) ∙ ap (λ more. i ∷ more) (items_by-laid fuel items (shorter fuel i items h))
  where
    shorter : (fuel : List ℕ) (i : Item) (items : List Item) → length (laid_item i ++ laid items) ≤ suc (length fuel) → length (laid items) ≤ length fuel
    shorter fuel i items h = omega (arith, length-append i.body (laid items))

-- What was laid is found again.
pub items_of-laid : (items : List Item) → items_of (laid items) ≡ items
unfolding items_of
items_of-laid items = items_by-laid (laid items) items (omega arith)

pub laid-append : (xs ys : List Item) → laid (xs ++ ys) ≡ laid xs ++ laid ys
laid-append [] ys = refl
laid-append (i ∷ xs) ys = ap (λ more. laid_item i ++ more) (laid-append xs ys) ∙ sym (append_assoc (laid_item i) (laid xs) (laid ys))

cancel : (xs ys zs : List ℕ) → xs ++ ys ≡ xs ++ zs → ys ≡ zs
cancel [] ys zs e = e
cancel (x ∷ xs) ys zs e = let tails : xs ++ ys ≡ xs ++ zs = cc in cancel xs ys zs tails

first_laid : (i : Item) (rest : List ℕ) → laid (items_of (laid_item i ++ rest)) ≡ laid_item i ++ rest → (js : List Item) × (items_of (laid_item i ++ rest) ≡ i ∷ js) × (laid js ≡ rest)
unfolding items_of
first_laid i rest e =
    let fuel : List ℕ = (length i.body + 2) ∷ i.body ++ rest in
    let js : List Item = items_by fuel rest in
    let found : items_of (laid_item i ++ rest) ≡ i ∷ js = found-first fuel i.kind i rest in
    let whole : laid_item i ++ laid js ≡ laid_item i ++ rest = sym (ap laid found) ∙ e in
    (js, found, cancel (laid_item i) (laid js) rest whole)

-- What lies behind the first item of some items is items again.
pub walked-laid : (left : List ℕ) (i : Item) (rest : List ℕ) → IsLaid left → left ≡ laid_item i ++ rest → IsLaid rest
walked-laid left i rest h e =
    let P : List ℕ → Type 0 = λ o. laid (items_of o) ≡ o in
    let at : laid (items_of (laid_item i ++ rest)) ≡ laid_item i ++ rest = subst P e h.are in
    let found = first_laid i rest at in
    let items : items_of rest ≡ found.0 = ap items_of (sym found.2) ∙ items_of-laid found.0 in
    record { are = ap laid items ∙ found.2 }

pub walked-items : (left : List ℕ) (i : Item) (rest : List ℕ) → IsLaid left → left ≡ laid_item i ++ rest → items_of left ≡ i ∷ items_of rest
walked-items left i rest h e =
    let P : List ℕ → Type 0 = λ o. laid (items_of o) ≡ o in
    let at : laid (items_of (laid_item i ++ rest)) ≡ laid_item i ++ rest = subst P e h.are in
    let found = first_laid i rest at in
    let items : items_of rest ≡ found.0 = ap items_of (sym found.2) ∙ items_of-laid found.0 in
    ap items_of e ∙ found.1 ∙ sym (ap (λ js. i ∷ js) items)

-- Some items and one more behind them.
pub pushed-items : (octets : List ℕ) (i : Item) → IsLaid octets → items_of (octets ++ laid_item i) ≡ items_of octets ++ i ∷ []
pushed-items octets i h =
    let whole : octets ++ laid_item i ≡ laid (items_of octets ++ i ∷ []) = sym (laid-append (items_of octets) (i ∷ []) ∙ ap (λ o. o ++ (laid_item i ++ [])) h.are ∙ ap (λ more. octets ++ more) (append_nil (laid_item i))) in
    ap items_of whole ∙ items_of-laid (items_of octets ++ i ∷ [])
  where
    append_nil : (xs : List ℕ) → xs ++ [] ≡ xs
    append_nil xs = grind (arith, common_steps)

pub pushed-laid : (octets : List ℕ) (i : Item) → IsLaid octets → IsLaid (octets ++ laid_item i)
pushed-laid octets i h =
    record { are = ap laid (pushed-items octets i h) ∙ laid-append (items_of octets) (i ∷ []) ∙ ap (λ o. o ++ (laid_item i ++ [])) h.are ∙ ap (λ more. octets ++ more) (append_nil (laid_item i)) }
  where
    append_nil : (xs : List ℕ) → xs ++ [] ≡ xs
    append_nil xs = grind (arith, common_steps)

-- Octets that are items are some items.
pub laid-is : (octets : List ℕ) (items : List Item) → octets ≡ laid items → IsLaid octets
laid-is octets items e = record { are = ap laid (ap items_of e ∙ items_of-laid items) ∙ sym e }

-- No octets are no items.
pub laid-empty : (items : List Item) → length (laid items) ≡ 0 → items ≡ []
laid-empty [] e = refl
laid-empty (i ∷ items) e = absurd (omega arith)

-- the second octet of items
second-laid : (kind size : ℕ) (rest : List ℕ) → laid (items_of (kind ∷ size ∷ rest)) ≡ kind ∷ size ∷ rest → length (take (size - 2) rest) + 2 ≡ size
unfolding items_of
second-laid kind size rest e = cc

-- Items have no fault in front.
pub no_fault : (fault : OptionFault) (left : List ℕ) → IsLaid left → IsFault fault left → ⊥
unfolding items_of
no_fault Cut [] h f = f
no_fault Cut (kind ∷ []) h f = let e : [] ≡ kind ∷ [] = h.are in cc
no_fault Cut (kind ∷ size ∷ rest) h f = let e = second-laid kind size rest h.are in omega (arith, length-take {A = ℕ})
no_fault BadLength [] h f = f
no_fault BadLength (kind ∷ []) h f = f
no_fault BadLength (kind ∷ size ∷ rest) h f = let e = second-laid kind size rest h.are in omega arith

pub items_of-none : (left : List ℕ) → length left ≡ 0 → items_of left ≡ []
unfolding items_of
items_of-none [] e = refl
items_of-none (x ∷ left) e = absurd (omega arith)

-- One more item has been passed.
pub one_more : (octets : List ℕ) (items : List Item) (left : List ℕ) (i : Item) (rest : List ℕ) → octets ≡ laid items ++ left → left ≡ laid_item i ++ rest → octets ≡ laid (items ++ i ∷ []) ++ rest
one_more octets items left i rest e f =
    e ∙ ap (λ x. laid items ++ x) f ∙ sym (append_assoc (laid items) (laid_item i) rest) ∙ ap (λ x. x ++ rest) (sym (laid-append items (i ∷ []) ∙ ap (λ x. laid items ++ x) (append_nil (laid_item i))))
  where
    append_nil : (xs : List ℕ) → xs ++ [] ≡ xs
    append_nil xs = grind (arith, common_steps)

-- Nothing is left.
pub none_left : (octets : List ℕ) (items : List Item) (left : List ℕ) → octets ≡ laid items ++ left → length left ≡ 0 → octets ≡ laid items
none_left octets items [] e z = e ∙ append_nil (laid items)
  where
    append_nil : (xs : List ℕ) → xs ++ [] ≡ xs
    append_nil xs = grind (arith, common_steps)
none_left octets items (x ∷ left) e z = absurd (omega arith)

-- an option has two octets or more
pub two_each : (items : List Item) → 2 * length items ≤ length (laid items)
two_each [] = omega arith
two_each (i ∷ items) = omega (arith, two_each items, length-append i.body (laid items))

-- One sequence of options at most is laid as these octets.
pub one_reading : (xs ys : List Item) → laid xs ≡ laid ys → xs ≡ ys
one_reading xs ys e = sym (items_of-laid xs) ∙ ap items_of e ∙ items_of-laid ys

-- an option has no fault in front
no_item : (fault : OptionFault) (i : Item) (rest : List ℕ) → IsFault fault (laid_item i ++ rest) → ⊥
no_item Cut i rest h = omega (arith, h.1, length-append i.body rest)
no_item BadLength i rest h = omega (arith, h)

one_kind : (f g : OptionFault) (rest : List ℕ) → IsFault f rest → IsFault g rest → f ≡ g
one_kind Cut Cut rest h k = refl
one_kind BadLength BadLength rest h k = refl
one_kind Cut BadLength [] h k = absurd h
one_kind Cut BadLength (kind ∷ []) h k = absurd k
one_kind Cut BadLength (kind ∷ size ∷ rest) h k = absurd (omega (arith, h.0, k))
one_kind BadLength Cut [] h k = absurd h
one_kind BadLength Cut (kind ∷ []) h k = absurd h
one_kind BadLength Cut (kind ∷ size ∷ rest) h k = absurd (omega (arith, h, k.0))

-- equal octets behind bodies of equal length
behind : (xs ys us vs : List ℕ) → length xs ≡ length ys → xs ++ us ≡ ys ++ vs → us ≡ vs
behind xs ys us vs n e = sym (drop-front xs us) ∙ ap (λ zs. drop (length xs) zs) e ∙ ap (λ k. drop k (ys ++ vs)) n ∙ drop-front ys vs

-- One fault at most comes behind whole options.
pub one_fault : (xs ys : List Item) (a b : List ℕ) (f g : OptionFault) → laid xs ++ a ≡ laid ys ++ b → IsFault f a → IsFault g b → f ≡ g
one_fault [] [] a b f g e h k = one_kind f g a h (subst (λ o. IsFault g o) (sym e) k)
one_fault [] (j ∷ ys) a b f g e h k =
    absurd (no_item f j (laid ys ++ b) (subst (λ o. IsFault f o) (e ∙ append_assoc (laid_item j) (laid ys) b) h))
one_fault (i ∷ xs) [] a b f g e h k =
    absurd (no_item g i (laid xs ++ a) (subst (λ o. IsFault g o) (sym e ∙ append_assoc (laid_item i) (laid xs) a) k))
one_fault (i ∷ xs) (j ∷ ys) a b f g e h k =
    let whole : i.kind ∷ (length i.body + 2) ∷ (i.body ++ (laid xs ++ a)) ≡ j.kind ∷ (length j.body + 2) ∷ (j.body ++ (laid ys ++ b)) =
    sym (append_assoc (laid_item i) (laid xs) a) ∙ e ∙ append_assoc (laid_item j) (laid ys) b in
    let sizes : length i.body + 2 ≡ length j.body + 2 = cc in
    let tails : i.body ++ (laid xs ++ a) ≡ j.body ++ (laid ys ++ b) = cc in
    one_fault xs ys a b f g (behind i.body j.body (laid xs ++ a) (laid ys ++ b) (omega (arith, sizes)) tails) h k

no_end : (fault : OptionFault) → IsFault fault [] → ⊥
no_end Cut h = h
no_end BadLength h = h

-- Whole options have no fault behind some of them.
pub no_fault_behind : (xs ys : List Item) (rest : List ℕ) (fault : OptionFault) → laid xs ≡ laid ys ++ rest → IsFault fault rest → ⊥
no_fault_behind [] [] rest fault e h = no_end fault (subst (λ o. IsFault fault o) (sym e) h)
no_fault_behind [] (j ∷ ys) rest fault e h = cc
no_fault_behind (i ∷ xs) [] rest fault e h = no_item fault i (laid xs) (subst (λ o. IsFault fault o) (sym e) h)
no_fault_behind (i ∷ xs) (j ∷ ys) rest fault e h =
    let whole : i.kind ∷ (length i.body + 2) ∷ (i.body ++ laid xs) ≡ j.kind ∷ (length j.body + 2) ∷ (j.body ++ (laid ys ++ rest)) =
    e ∙ append_assoc (laid_item j) (laid ys) rest in
    let sizes : length i.body + 2 ≡ length j.body + 2 = cc in
    let tails : i.body ++ laid xs ≡ j.body ++ (laid ys ++ rest) = cc in
    no_fault_behind xs ys rest fault (behind i.body j.body (laid xs) (laid ys ++ rest) (omega (arith, sizes)) tails) h

-- the element behind those that are dropped
pub get-drop : (xs : List Item) (n : ℕ) (x : Item) (rest : List Item) → drop n xs ≡ x ∷ rest → slice_get xs n ≡ Some x
get-drop [] zero x rest e = cc
get-drop [] (suc n) x rest e = cc
get-drop (y ∷ xs) zero x rest e = cc
get-drop (y ∷ xs) (suc n) x rest e = get-drop xs n x rest e

pub drop-next : (xs : List Item) (n : ℕ) (x : Item) (rest : List Item) → drop n xs ≡ x ∷ rest → drop (n + 1) xs ≡ rest
drop-next xs n x rest e = ap (λ k. drop k xs) (add-one n) ∙ behind_one xs n x rest e
  where
    behind_one : (xs : List Item) (n : ℕ) (x : Item) (rest : List Item) → drop n xs ≡ x ∷ rest → drop (suc n) xs ≡ rest
    behind_one [] zero x rest e = cc
    behind_one [] (suc n) x rest e = cc
    behind_one (y ∷ xs) zero x rest e = cc
    behind_one (y ∷ xs) (suc n) x rest e = behind_one xs n x rest e

-- nothing is left behind the last
pub past_last : (xs : List Item) (n m : ℕ) → drop n xs ≡ [] → n ≤ m → length xs ≤ m
past_last xs n m e h = omega (arith, ap length e, length-drop n xs, h)
