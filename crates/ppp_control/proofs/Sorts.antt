-- Sorting a request's options one by one gives what filters of the whole give.
use Rattle.std.proofs.Common.{◌≡◌, ℕ, ◌+◌, ◌-◌, ◌≤◌, Bool, true, false, cond, List, [], ◌∷◌, ◌++◌, length, refl, ap, sym, ◌∙◌, subst, append_assoc, arith, length-append}
use Rattle.std.specs.Prelude.{nat_le, not, ◌&&◌, map, if◌then◌else◌}
use Rattle.ppp_packet.specs.OptionsOf.{Item, item, laid, laid_item}
use Rattle.ppp_packet.proofs.Laying.{laid-append}
use Rattle.ppp_control.specs.declared.sorting.Sorting.{Sorting}
use Rattle.ppp_control.specs.Answers.{Judgement, acks, names, rejects, suggests, is_rejected, is_named, value_in, rejected, named, renamed, fitting, rejected_or, named_or, answer_to}
use Rattle.ppp_control.specs.Sorting.{renamed_with, sorted_with, named_answer, sorted_answer}

-- What has been sorted, and what is left, are the request.
pub record SortsOut (judge : Item → Judgement) (items : List Item) (s : Sorting) (left : List Item) : Type 0 where
  pub refused : s.rejected ++ rejected judge left ≡ rejected judge items
  pub called : s.named ++ named judge left ≡ named judge items
  pub given : s.renamed ++ (if s.is_full then [] else fitting (1504 - length (laid s.renamed)) (renamed judge left)) ≡ fitting 1504 (renamed judge items)
  pub refused_room : length (laid s.rejected) + length (laid left) ≤ 1504
  pub called_room : length (laid s.named) + length (laid left) ≤ 1504

append_nil : (xs : List Item) → xs ++ [] ≡ xs
append_nil [] = refl
append_nil (x ∷ xs) = ap (λ ys. x ∷ ys) (append_nil xs)

-- the size of items and one more
size_with : (items : List Item) (i : Item) → length (laid (items ++ i ∷ [])) ≡ length (laid items) + (length i.body + 2)
size_with items i = rw laid-append (omega (arith, length-append (laid items) (laid_item i ++ []), length-append i.body []))

size_left : (i : Item) (left : List Item) → length (laid (i ∷ left)) ≡ length i.body + 2 + length (laid left)
size_left i left = omega (arith, length-append i.body (laid left))

pub sorts_none : (judge : Item → Judgement) (items : List Item) → length (laid items) ≤ 1504 → SortsOut judge items (record { rejected = []; named = []; renamed = []; is_full = false }) items
sorts_none judge items h = record { refused = refl; called = refl; given = refl; refused_room = omega arith; called_room = omega arith }

room_after : (ren : List Item) (i : Item) → 1504 - length (laid (ren ++ i ∷ [])) ≡ 1504 - length (laid ren) - (length i.body + 2)
room_after ren i = omega (arith, size_with ren i)

by_fit : (rej nam ren more all : List Item) (i : Item) (fits : Bool)
    → ren ++ cond fits (i ∷ fitting (1504 - length (laid ren) - (length i.body + 2)) more) [] ≡ all
    → let s : Sorting = cond fits (record { rejected = rej; named = nam; renamed = ren ++ i ∷ []; is_full = false }) (record { rejected = rej; named = nam; renamed = ren; is_full = true })
    in s.renamed ++ cond s.is_full [] (fitting (1504 - length (laid s.renamed)) more) ≡ all
by_fit rej nam ren more all i true e = append_assoc ren (i ∷ []) (fitting (1504 - length (laid (ren ++ i ∷ []))) more) ∙ ap (λ room. ren ++ (i ∷ fitting room more)) (room_after ren i) ∙ e
by_fit rej nam ren more all i false e = e

-- what is given, after one more name
given_more : (rej nam ren : List Item) (full : Bool) (i : Item) (more all : List Item)
    → ren ++ cond full [] (fitting (1504 - length (laid ren)) (i ∷ more)) ≡ all
    → let s : Sorting = renamed_with (record { rejected = rej; named = nam; renamed = ren; is_full = full }) i
    in s.renamed ++ cond s.is_full [] (fitting (1504 - length (laid s.renamed)) more) ≡ all
given_more rej nam ren true i more all e = e
given_more rej nam ren false i more all e = by_fit rej nam ren more all i (nat_le (length i.body + 2) (1504 - length (laid ren))) e

-- a name changes neither of the other two lists
kept_by_name : (s : Sorting) (i : Item) (fits : Bool) → let t : Sorting = cond fits (record s { renamed = s.renamed ++ i ∷ [] }) (record s { is_full = true }) in (t.rejected ≡ s.rejected) × (t.named ≡ s.named)
kept_by_name s i true = (refl, refl)
kept_by_name s i false = (refl, refl)

rejected_step : (judge : Item → Judgement) (i : Item) (left : List Item) (j : Judgement) → judge i ≡ j → rejected judge (i ∷ left) ≡ cond (is_rejected j) (i ∷ rejected judge left) (rejected judge left)
rejected_step judge i left j e = ap (λ x. cond (is_rejected x) (i ∷ rejected judge left) (rejected judge left)) e

named_step : (judge : Item → Judgement) (i : Item) (left : List Item) (j : Judgement) → judge i ≡ j → named judge (i ∷ left) ≡ cond (is_named j) (i ∷ named judge left) (named judge left)
named_step judge i left j e = ap (λ x. cond (is_named x) (i ∷ named judge left) (named judge left)) e

renamed_step : (judge : Item → Judgement) (i : Item) (left : List Item) (value : List ℕ) → judge i ≡ names value → renamed judge (i ∷ left) ≡ item i.kind value ∷ renamed judge left
renamed_step judge i left value e =
    ap (λ items. map (λ k. item k.kind (value_in (judge k))) items) (named_step judge i left (names value) e) ∙ ap (λ j. item i.kind (value_in j) ∷ renamed judge left) e

one_behind : (xs ys : List Item) (i : Item) → (xs ++ i ∷ []) ++ ys ≡ xs ++ i ∷ ys
one_behind xs ys i = append_assoc xs (i ∷ []) ys

pub sorts_more : (judge : Item → Judgement) (items : List Item) (s : Sorting) (i : Item) (left : List Item) (j : Judgement) → judge i ≡ j → SortsOut judge items s (i ∷ left) → SortsOut judge items (sorted_with s i j) left
sorts_more judge items s i left acks e h = record {
  refused = ap (λ x. s.rejected ++ x) (sym (rejected_step judge i left acks e)) ∙ h.refused;
  called = ap (λ x. s.named ++ x) (sym (named_step judge i left acks e)) ∙ h.called;
  given = ap (λ x. s.renamed ++ cond s.is_full [] (fitting (1504 - length (laid s.renamed)) (map (λ k. item k.kind (value_in (judge k))) x))) (sym (named_step judge i left acks e)) ∙ h.given;
  refused_room = omega (arith, size_left i left, h.refused_room);
  called_room = omega (arith, size_left i left, h.called_room);
}
sorts_more judge items s i left rejects e h = record {
  refused = one_behind s.rejected (rejected judge left) i ∙ ap (λ x. s.rejected ++ x) (sym (rejected_step judge i left rejects e)) ∙ h.refused;
  called = ap (λ x. s.named ++ x) (sym (named_step judge i left rejects e)) ∙ h.called;
  given = ap (λ x. s.renamed ++ cond s.is_full [] (fitting (1504 - length (laid s.renamed)) (map (λ k. item k.kind (value_in (judge k))) x))) (sym (named_step judge i left rejects e)) ∙ h.given;
  refused_room = omega (arith, size_left i left, size_with s.rejected i, h.refused_room);
  called_room = omega (arith, size_left i left, h.called_room);
}
sorts_more judge items s i left (names value) e h =
    let t : Sorting = record s { named = s.named ++ i ∷ [] } in
    let new : Item = item i.kind value in
    let kept = kept_by_name t new (not s.is_full && nat_le (length value + 2) (1504 - length (laid s.renamed))) in
    let P : List Item → Type 0 = λ x. length (laid x) + length (laid left) ≤ 1504 in
    let one : length (laid s.rejected) + length (laid left) ≤ 1504 = omega (arith, size_left i left, h.refused_room) in
    let two : length (laid (s.named ++ i ∷ [])) + length (laid left) ≤ 1504 = omega (arith, size_left i left, size_with s.named i, h.called_room) in
    record {
      refused = ap (λ x. x ++ rejected judge left) kept.0 ∙ ap (λ x. s.rejected ++ x) (sym (rejected_step judge i left (names value) e)) ∙ h.refused;
      called = ap (λ x. x ++ named judge left) kept.1 ∙ one_behind s.named (named judge left) i ∙ ap (λ x. s.named ++ x) (sym (named_step judge i left (names value) e)) ∙ h.called;
      given = given_more s.rejected (s.named ++ i ∷ []) s.renamed s.is_full new (renamed judge left) (fitting 1504 (renamed judge items)) (ap (λ x. s.renamed ++ cond s.is_full [] (fitting (1504 - length (laid s.renamed)) x)) (sym (renamed_step judge i left value e)) ∙ h.given);
      refused_room = subst P (sym kept.0) one;
      called_room = subst P (sym kept.1) two;
    }

-- An option that is left has room in each list.
pub room_left : (judge : Item → Judgement) (items : List Item) (s : Sorting) (i : Item) (left : List Item) → SortsOut judge items s (i ∷ left) → (length (laid s.rejected) + (length i.body + 2) ≤ 1504) × (length (laid s.named) + (length i.body + 2) ≤ 1504)
room_left judge items s i left h = (omega (arith, size_left i left, h.refused_room), omega (arith, size_left i left, h.called_room))

given_all : (ren more : List Item) (full : Bool) → ren ++ cond full [] (fitting (1504 - length (laid ren)) []) ≡ more → ren ≡ more
given_all ren more true e = sym (append_nil ren) ∙ e
given_all ren more false e = sym (append_nil ren) ∙ e

given_answer : (spent : Bool) (nam ren values : List Item) → ren ≡ fitting 1504 values → named_answer spent nam ren ≡ named_or spent nam values
given_answer spent [] ren values e = refl
given_answer true (i ∷ nam) ren values e = refl
given_answer false (i ∷ nam) ren values e = ap suggests e

-- When none is left, the answer is that to the request.
pub sorted_all : (judge : Item → Judgement) (spent : Bool) (items : List Item) (s : Sorting) → SortsOut judge items s [] → sorted_answer spent s ≡ answer_to judge spent items
unfolding answer_to
sorted_all judge spent items s h =
    let rej : s.rejected ≡ rejected judge items = sym (append_nil s.rejected) ∙ h.refused in
    let nam : s.named ≡ named judge items = sym (append_nil s.named) ∙ h.called in
    let ren : s.renamed ≡ fitting 1504 (renamed judge items) = given_all s.renamed _ s.is_full h.given in
    ap (λ x. rejected_or x (named_answer spent s.named s.renamed)) rej ∙ ap (λ x. rejected_or (rejected judge items) x) (ap (λ x. named_answer spent x s.renamed) nam ∙ given_answer spent (named judge items) s.renamed (renamed judge items) ren)
