-- Slots by the rests of their numbers.
use Rattle.std.proofs.Common.{◌⊎◌, ◌≡◌, ◌≢◌, ℕ, ◌+◌, ◌%◌, ◌<◌, ◌++◌, zero, suc, nat_eq, cond, Bool, true, false, List, [], ◌∷◌, length, Option, None, Some, is_some, option_map, slice_set, slice_index_or, refl, sym, ap, subst, ◌∙◌, arith, inl, inr}
use mathlib.Core.Path.{path_j}
use native.Mathlib.Nat.{ℕ_set}
use Rattle.std.proofs.Math.ListN.{length-set}
use Rattle.std.proofs.lemmas.List.{get_or-set_other, get_or-set_same}
use Rattle.std.proofs.lemmas.Bool.Decides.{nat_tests}
use Rattle.ppp_mp.specs.Header.{long_space}
use Rattle.ppp_mp.specs.Ring.{Slotted, kept_at, kept_in, view_of, InRing, AreNear, IsNearAll, emptied, slotted, slot_piece, octets_there}
use Rattle.ppp_mp.specs.declared.slot_piece.SlotPiece.{SlotPiece}

not_this : (slot : Slotted) (number : ℕ) (o : Option SlotPiece) → nat_eq slot.number number ≡ false → cond (nat_eq slot.number number) (Some slot.piece) o ≡ o
not_this slot number o e = rw e refl

other_rest : (a b : ℕ) → (a % 128 ≡ b % 128 → ⊥) → nat_eq a b ≡ false
other_rest a b ne = by_test (nat_eq a b) refl
  where
    by_test : (t : Bool) → nat_eq a b ≡ t → nat_eq a b ≡ false
    by_test true e = let same : a ≡ b = grind (arith, nat_tests) in absurd (ne (ap (λ n. n % 128) same))
    by_test false e = e

-- A number of an earlier slot isn't kept in later ones.
none_later : (j number : ℕ) (slots : List (Option Slotted)) → InRing long_space j slots → number % 128 < j → kept_at number slots ≡ None
none_later j number [] ring below = refl
none_later j number (None ∷ slots) ring below = none_later (j + 1) number slots ring (omega arith)
none_later j number (Some slot ∷ slots) ring below =
    let here : slot.number % 128 ≡ j = ring.0 in
    not_this slot number (kept_at number slots) (other_rest slot.number number (λ e. omega arith)) ∙ none_later (j + 1) number slots ring.2 (omega arith)

in_first : (slot : Slotted) (number : ℕ) (o : Option SlotPiece) (b : Bool) → o ≡ None → cond b (Some slot.piece) o ≡ cond b (Some slot.piece) None
in_first slot number o b e = rw e refl

-- A number that is kept is kept in the slot of its rest.
pub in_slot : (j i number : ℕ) (slots : List (Option Slotted)) → InRing long_space j slots → number % 128 ≡ j + i → i < length slots → kept_at number slots ≡ kept_in number (slice_index_or slots i None)
in_slot j i number [] ring at within = absurd (omega arith)
in_slot j zero number (None ∷ slots) ring at within = none_later (j + 1) number slots ring (omega arith)
in_slot j zero number (Some slot ∷ slots) ring at within = in_first slot number (kept_at number slots) (nat_eq slot.number number) (none_later (j + 1) number slots ring.2 (omega arith))
in_slot j (suc i) number (None ∷ slots) ring at within = in_slot (j + 1) i number slots ring (omega arith) (omega arith)
in_slot j (suc i) number (Some slot ∷ slots) ring at within =
    let here : slot.number % 128 ≡ j = ring.0 in
    not_this slot number (kept_at number slots) (other_rest slot.number number (λ e. omega arith)) ∙ in_slot (j + 1) i number slots ring.2 (omega arith) (omega arith)

pub ring_none : (j i : ℕ) (slots : List (Option Slotted)) → InRing long_space j slots → InRing long_space j (slice_set slots i None)
ring_none j i [] ring = tt
ring_none j zero (None ∷ slots) ring = ring
ring_none j zero (Some slot ∷ slots) ring = ring.2
ring_none j (suc i) (None ∷ slots) ring = ring_none (j + 1) i slots ring
ring_none j (suc i) (Some slot ∷ slots) ring = (ring.0, ring.1, ring_none (j + 1) i slots ring.2)

pub ring_some : (j i : ℕ) (new : Slotted) (slots : List (Option Slotted)) → InRing long_space j slots → new.number % 128 ≡ j + i → new.number < long_space → InRing long_space j (slice_set slots i (Some new))
ring_some j i new [] ring at within = tt
ring_some j zero new (None ∷ slots) ring at within = (let e : new.number % 128 ≡ j = omega arith in e, within, ring)
ring_some j zero new (Some slot ∷ slots) ring at within = (let e : new.number % 128 ≡ j = omega arith in e, within, ring.2)
ring_some j (suc i) new (None ∷ slots) ring at within = ring_some (j + 1) i new slots ring (omega arith) within
ring_some j (suc i) new (Some slot ∷ slots) ring at within = (ring.0, ring.1, ring_some (j + 1) i new slots ring.2 (omega arith) within)

pub all_empty : (slots : List (Option Slotted)) → ((i : ℕ) → slice_index_or slots i None ≡ None) → (number : ℕ) → kept_at number slots ≡ None
all_empty [] none number = refl
all_empty (None ∷ slots) none number = all_empty slots (λ i. none (suc i)) number
all_empty (Some slot ∷ slots) none number = absurd (let e : Some slot ≡ None = none 0 in cc)

-- A slot is set to what may stand there.
set_slot : (slots : List (Option Slotted)) (i other : ℕ) (v : Option Slotted) → length slots ≡ 128 → InRing long_space 0 slots → InRing long_space 0 (slice_set slots i v) → i < 128
    → ((other % 128 ≡ i → kept_at other (slice_set slots i v) ≡ kept_in other v) × ((other % 128 ≡ i → ⊥) → kept_at other (slice_set slots i v) ≡ kept_at other slots))
set_slot slots i other v long ring ring' within =
    let len : length (slice_set slots i v) ≡ 128 = length-set slots i v ∙ long in
    let there = in_slot 0 (other % 128) other (slice_set slots i v) ring' (omega arith) (omega arith) in
    let before = in_slot 0 (other % 128) other slots ring (omega arith) (omega arith) in (
      λ e.
          let at : slice_index_or (slice_set slots i v) (other % 128) None ≡ v = rw e (get_or-set_same slots i v None (omega arith)) in
          there ∙ ap (kept_in other) at,
      λ ne. there ∙ ap (kept_in other) (get_or-set_other slots i (other % 128) v None ne) ∙ sym before,
    )

test_eq : (a b : ℕ) (P : Type 0) → (nat_eq a b ≡ true → a ≡ b → P) → (nat_eq a b ≡ false → (a ≡ b → ⊥) → P) → P
test_eq a b P same apart = by_test (nat_eq a b) refl
  where
    by_test : (t : Bool) → nat_eq a b ≡ t → P
    by_test true e = same e (grind (arith, nat_tests))
    by_test false e = apart e (λ is. grind (arith, nat_tests))

-- The slot of a new number near all others is empty.
same_number : (a b : ℕ) → a < long_space → b < long_space → a % 128 ≡ b % 128 → AreNear long_space a b → a ≡ b
same_number a b la lb rest (inl near) = omega arith
same_number a b la lb rest (inr near) = omega arith

slot_empty : (number : ℕ) (slots : List (Option Slotted)) (o : Option Slotted) → slice_index_or slots (number % 128) None ≡ o → length slots ≡ 128 → InRing long_space 0 slots → number < long_space → kept_at number slots ≡ None → IsNearAll long_space number slots → o ≡ None
slot_empty number slots None is long ring within new near = refl
slot_empty number slots (Some slot) is long ring within new near =
    let rest = ring_at 0 (number % 128) slots slot ring is in
    let at : slot.number % 128 ≡ number % 128 = omega (arith, rest.0) in
    let there : kept_at slot.number slots ≡ Some slot.piece =
    in_slot 0 (slot.number % 128) slot.number slots ring (omega arith) (omega arith)
    ∙ ap (λ n. kept_in slot.number (slice_index_or slots n None)) at ∙ ap (kept_in slot.number) is ∙ this_one slot in
    let near' : AreNear long_space number slot.number = near slot.number rest.1 (λ none. let e : None ≡ Some slot.piece = sym none ∙ there in cc) in
    let same : number ≡ slot.number = same_number number slot.number within rest.1 (sym at) near' in
    absurd (let e : None ≡ Some slot.piece = sym new ∙ ap (λ n. kept_at n slots) same ∙ there in cc)
  where
    this_one : (slot : Slotted) → kept_in slot.number (Some slot) ≡ Some slot.piece
    this_one slot = let e : nat_eq slot.number slot.number ≡ true = grind (arith, nat_tests) in rw e refl

    ring_at : (j i : ℕ) (slots : List (Option Slotted)) (slot : Slotted) → InRing long_space j slots → slice_index_or slots i None ≡ Some slot → (slot.number % 128 ≡ j + i) × (slot.number < long_space)
    ring_at j i [] slot ring is = absurd (let e : None ≡ Some slot = is in cc)
    ring_at j zero (None ∷ slots) slot ring is = absurd (let e : None ≡ Some slot = is in cc)
    ring_at j zero (Some x ∷ slots) slot ring is = let same : x ≡ slot = let e : Some x ≡ Some slot = is in cc in let at : x.number % 128 ≡ j + 0 = omega (arith, ring.0) in (subst (λ (y : Slotted). y.number % 128 ≡ j + 0) same at, subst (λ (y : Slotted). y.number < long_space) same ring.1)
    ring_at j (suc i) (None ∷ slots) slot ring is = let t = ring_at (j + 1) i slots slot ring is in (omega (arith, t.0), t.1)
    ring_at j (suc i) (Some x ∷ slots) slot ring is = let t = ring_at (j + 1) i slots slot ring.2 is in (omega (arith, t.0), t.1)

-- what a new piece leaves
pub put_kept : (number other : ℕ) (piece : SlotPiece) (new : Slotted) (slots : List (Option Slotted)) → new ≡ record { number = number; piece = piece } → length slots ≡ 128 → InRing long_space 0 slots → number < long_space
    → kept_at number slots ≡ None → IsNearAll long_space number slots → kept_at other (slice_set slots (number % 128) (Some new)) ≡ cond (nat_eq other number) (Some piece) (kept_at other slots)
put_kept number other piece new slots is long ring within fresh near =
    let number_is : new.number ≡ number = ap (λ (s : Slotted). s.number) is in
    let ring' : InRing long_space 0 (slice_set slots (number % 128) (Some new)) = ring_some 0 (number % 128) new slots ring (omega arith) (omega arith) in
    let set = set_slot slots (number % 128) other (Some new) long ring ring' (omega arith) in
    let empty : slice_index_or slots (number % 128) None ≡ None = slot_empty number slots (slice_index_or slots (number % 128) None) refl long ring within fresh near in
    test_eq other number (kept_at other (slice_set slots (number % 128) (Some new)) ≡ cond (nat_eq other number) (Some piece) (kept_at other slots))
    (λ t e.
    let test : nat_eq new.number other ≡ true = grind (arith, nat_tests) in
    let this : kept_in other (Some new) ≡ Some piece = rw test (ap (λ (s : Slotted). Some s.piece) is) in
    set.0 (ap (λ n. n % 128) e) ∙ this ∙ rw t refl)
    (λ t ne. test_eq (other % 128) (number % 128) (kept_at other (slice_set slots (number % 128) (Some new)) ≡ cond (nat_eq other number) (Some piece) (kept_at other slots))
    (λ u e.
    let test : nat_eq new.number other ≡ false = grind (arith, nat_tests) in
    let not_it : kept_in other (Some new) ≡ None = rw test refl in
    let before : kept_at other slots ≡ None = in_slot 0 (other % 128) other slots ring (omega arith) (omega arith) ∙ ap (λ n. kept_in other (slice_index_or slots n None)) e ∙ ap (kept_in other) empty in
    set.0 e ∙ not_it ∙ rw t (sym before))
    (λ u ne'. set.1 ne' ∙ rw t refl))

-- what a piece leaves that waits no longer
pub clear_kept : (number other : ℕ) (slots : List (Option Slotted)) → length slots ≡ 128 → InRing long_space 0 slots → number < long_space → kept_in number (slice_index_or slots (number % 128) None) ≢ None
    → kept_at other (slice_set slots (number % 128) None) ≡ cond (nat_eq other number) None (kept_at other slots)
clear_kept number other slots long ring within there =
    let ring' : InRing long_space 0 (slice_set slots (number % 128) None) = ring_none 0 (number % 128) slots ring in
    let set = set_slot slots (number % 128) other None long ring ring' (omega arith) in
    test_eq other number (kept_at other (slice_set slots (number % 128) None) ≡ cond (nat_eq other number) None (kept_at other slots))
    (λ t e. set.0 (ap (λ n. n % 128) e) ∙ rw t refl)
    (λ t ne. test_eq (other % 128) (number % 128) (kept_at other (slice_set slots (number % 128) None) ≡ cond (nat_eq other number) None (kept_at other slots))
    (λ u e.
    let before : kept_at other slots ≡ None =
    in_slot 0 (other % 128) other slots ring (omega arith) (omega arith) ∙ ap (λ n. kept_in other (slice_index_or slots n None)) e
    ∙ one_number (slice_index_or slots (number % 128) None) ne there in
    set.0 e ∙ rw t (sym before))
    (λ u ne'. set.1 ne' ∙ rw t refl))
  where
    one_number : (o : Option Slotted) → (other ≡ number → ⊥) → kept_in number o ≢ None → kept_in other o ≡ None
    one_number None ne there = refl
    one_number (Some slot) ne there =
        test_eq slot.number other (kept_in other (Some slot) ≡ None)
        (λ t e. let f : nat_eq slot.number number ≡ false = grind (arith, nat_tests) in absurd (there (rw f refl)))
        (λ t ne'. rw t refl)

-- a number that isn't kept leaves all as it was
pub none_kept : (number other : ℕ) (slots : List (Option Slotted)) → kept_at number slots ≡ None → kept_at other slots ≡ cond (nat_eq other number) None (kept_at other slots)
none_kept number other slots none = test_eq other number (kept_at other slots ≡ cond (nat_eq other number) None (kept_at other slots)) (λ t e. rw t (rw e none)) (λ t ne. rw t refl)

pub at_kept : (number : ℕ) (slots : List (Option Slotted)) → length slots ≡ 128 → InRing long_space 0 slots → kept_at number slots ≡ kept_in number (slice_index_or slots (number % 128) None)
at_kept number slots long ring = in_slot 0 (number % 128) number slots ring (omega arith) (omega arith)

pub ring_empty : (j : ℕ) (slots : List (Option Slotted)) → ((i : ℕ) → slice_index_or slots i None ≡ None) → InRing long_space j slots
ring_empty j [] none = tt
ring_empty j (None ∷ slots) none = ring_empty (j + 1) slots (λ i. none (suc i))
ring_empty j (Some slot ∷ slots) none = absurd (let e : Some slot ≡ None = none 0 in cc)

pub empty_more : (slots : List (Option Slotted)) → ((i : ℕ) → slice_index_or slots i None ≡ None) → (i : ℕ) → slice_index_or (slots ++ None ∷ []) i None ≡ None
empty_more [] none zero = refl
empty_more [] none (suc i) = refl
empty_more (x ∷ slots) none zero = none 0
empty_more (x ∷ slots) none (suc i) = empty_more slots (λ k. none (suc k)) i

pub none_seen : (o : Option SlotPiece) → is_some (option_map view_of o) ≡ false → o ≡ None
none_seen None e = refl
none_seen (Some p) e = absurd (cc)

pub piece_seen : (number : ℕ) (o : Option Slotted) (slot : Slotted) → o ≡ Some slot → is_some (option_map view_of (kept_in number o)) ≡ true → kept_in number o ≡ Some slot.piece
piece_seen number None slot is e = absurd (let f : None ≡ Some slot = is in cc)
piece_seen number (Some x) slot is e =
    let same : x ≡ slot = let f : Some x ≡ Some slot = is in cc in
    by_test (nat_eq x.number number) e ∙ ap (λ (y : Slotted). Some y.piece) same
  where
    by_test : (t : Bool) → is_some (option_map view_of (cond t (Some x.piece) None)) ≡ true → cond t (Some x.piece) None ≡ Some x.piece
    by_test true e = refl
    by_test false e = absurd (cc)

pub some_seen : (o : Option SlotPiece) → is_some (option_map view_of o) ≡ true → o ≢ None
some_seen None e = absurd (cc)
some_seen (Some p) e = λ h. cc

set_there : (slots : List (Option Slotted)) (i : ℕ) → slice_set slots i (slice_index_or slots i None) ≡ slots
set_there [] i = refl
set_there (x ∷ slots) zero = refl
set_there (x ∷ slots) (suc i) = ap (λ (l : List (Option Slotted)). x ∷ l) (set_there slots i)

-- A slot that is emptied keeps nothing, or what it kept where that has another number.
emptied_cases : (number : ℕ) (o : Option Slotted) → ((emptied number o ≡ None) × (kept_in number o ≢ None)) ⊎ ((emptied number o ≡ o) × (kept_in number o ≡ None))
emptied_cases number None = inr (refl, refl)
emptied_cases number (Some slot) = by_test (nat_eq slot.number number) refl
  where
    by_test : (t : Bool) → nat_eq slot.number number ≡ t → ((emptied number (Some slot) ≡ None) × (kept_in number (Some slot) ≢ None)) ⊎ ((emptied number (Some slot) ≡ Some slot) × (kept_in number (Some slot) ≡ None))
    by_test true e = inl (rw e refl, λ none. (let there : kept_in number (Some slot) ≡ Some slot.piece = rw e refl in let f : None ≡ Some slot.piece = sym none ∙ there in cc))
    by_test false e = inr (rw e refl, rw e refl)

pub emptied_ring : (i number : ℕ) (slots : List (Option Slotted)) → InRing long_space 0 slots → InRing long_space 0 (slice_set slots i (emptied number (slice_index_or slots i None)))
emptied_ring i number slots ring = elim (emptied_cases number (slice_index_or slots i None)) [
  | inl t ↦ subst (λ (v : Option Slotted). InRing long_space 0 (slice_set slots i v)) (sym t.0) (ring_none 0 i slots ring)
  | inr t ↦ subst (λ (v : Option Slotted). InRing long_space 0 (slice_set slots i v)) (sym t.0) (subst (λ (l : List (Option Slotted)). InRing long_space 0 l) (sym (set_there slots i)) ring)
]

pub emptied_kept : (number other : ℕ) (slots : List (Option Slotted)) → length slots ≡ 128 → InRing long_space 0 slots → number < long_space
    → kept_at other (slice_set slots (number % 128) (emptied number (slice_index_or slots (number % 128) None))) ≡ cond (nat_eq other number) None (kept_at other slots)
emptied_kept number other slots long ring within = elim (emptied_cases number (slice_index_or slots (number % 128) None)) [
  | inl t ↦ ap (λ (v : Option Slotted). kept_at other (slice_set slots (number % 128) v)) t.0 ∙ clear_kept number other slots long ring within t.1
  | inr t ↦
      ap (λ (v : Option Slotted). kept_at other (slice_set slots (number % 128) v)) t.0
      ∙ ap (kept_at other) (set_there slots (number % 128))
      ∙ none_kept number other slots (at_kept number slots long ring ∙ t.1)
]

-- The count of a piece's octets is one, however it is known.
abbrev piece_of : (first last : Bool) (octets : List ℕ) (len : ℕ) → len ≡ length octets → SlotPiece
piece_of first last octets len counted = record { first = first; last = last; len = len; octets = octets; counted = counted }

same_counted : (first last : Bool) (octets : List ℕ) (len : ℕ) → length octets ≡ len → (counted : len ≡ length octets) → slot_piece first last octets ≡ piece_of first last octets len counted
same_counted first last octets len is =
    path_j (λ (n : ℕ) (q : length octets ≡ n). (counted : n ≡ length octets) → slot_piece first last octets ≡ piece_of first last octets n counted)
    (λ counted. ap (piece_of first last octets (length octets)) (ℕ_set (length octets) (length octets) refl counted)) is

-- A piece is what its marks and octets make.
pub piece_is : (p : SlotPiece) (octets : List ℕ) → octets ≡ p.octets → slot_piece p.first p.last octets ≡ p
piece_is p octets same = ap (slot_piece p.first p.last) same ∙ same_counted p.first p.last p.octets p.len (sym p.counted) p.counted

kept_slotted : (number n : ℕ) (first last : Bool) (octets : List ℕ) (kept : Bool) → is_some (kept_in number (slotted kept n first last octets)) ≡ true → Some (slot_piece first last octets) ≡ kept_in number (slotted kept n first last octets)
kept_slotted number n first last octets false e = absurd (cc)
kept_slotted number n first last octets true e = by_test (nat_eq n number) e
  where
    by_test : (t : Bool) → is_some (cond t (Some (slot_piece first last octets)) None) ≡ true → Some (slot_piece first last octets) ≡ cond t (Some (slot_piece first last octets)) None
    by_test true e = refl
    by_test false e = absurd (cc)

-- The piece of a slot, copied whole.
pub whole_piece : (number n : ℕ) (first last kept : Bool) (octets : List ℕ) (p : SlotPiece) (now : Option Slotted) → p.first ≡ first → p.last ≡ last → p.octets ≡ octets → slotted kept n first last octets ≡ now → is_some (kept_in number now) ≡ true
    → Some p ≡ kept_in number now
whole_piece number n first last kept octets p now first_is last_is octets_is now_is has =
    let has' : is_some (kept_in number (slotted kept n first last octets)) ≡ true = ap (λ (o : Option Slotted). is_some (kept_in number o)) now_is ∙ has in
    let made : slot_piece p.first p.last p.octets ≡ p = piece_is p p.octets refl in
    ap (λ (q : SlotPiece). Some q) (sym made)
    ∙ ap (λ (b : Bool). Some (slot_piece b p.last p.octets)) first_is
    ∙ ap (λ (b : Bool). Some (slot_piece first b p.octets)) last_is
    ∙ ap (λ (l : List ℕ). Some (slot_piece first last l)) octets_is
    ∙ kept_slotted number n first last octets kept has'
    ∙ ap (kept_in number) now_is

pub octets_seen : (o : Option SlotPiece) (octets : List ℕ) → Some octets ≡ option_map (λ (p : SlotPiece). p.octets) o → octets ≡ octets_there o
octets_seen None octets e = absurd (cc)
octets_seen (Some p) octets e = cc

pub no_octets_seen : (o : Option SlotPiece) → None ≡ option_map (λ (p : SlotPiece). p.octets) o → [] ≡ octets_there o
no_octets_seen None e = refl
no_octets_seen (Some p) e = absurd (cc)
