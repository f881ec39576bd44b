-- The places of pieces that wait in slots.
use Rattle.std.proofs.Common.{nat_lt, subst, ◌≡◌, ◌≢◌, ◌⊎◌, ℕ, ◌+◌, ◌-◌, ◌%◌, ◌<◌, ◌≤◌, ◌++◌, zero, suc, nat_eq, cond, Bool, true, false, List, [], map, Option, None, Some, option_map, append-nil, refl, sym, ap, ◌∙◌, arith, inl, inr}
use Rattle.std.specs.List.{range_with_len}
use Rattle.std.proofs.lemmas.List.{get_or_past}
use Rattle.std.proofs.lemmas.List.FromFn.{get_or-map-range_with_len, length-map-range_with_len}
use Rattle.std.proofs.lemmas.Bool.{cases_lt}
use Rattle.std.proofs.lemmas.Bool.Decides.{nat_tests}
use Rattle.ppp_mp.specs.Header.{long_space}
use Rattle.ppp_mp.specs.Ring.{Slotted, kept_at, view_of, IsNearAll, octets_there}
use Rattle.ppp_mp.specs.Places.{place, pieces_from, IsWindow, joined_there}
use Rattle.ppp_mp.specs.declared.slot_piece.SlotPiece.{SlotPiece}
use Rattle.ppp_mp.specs.declared.slot_piece.SlotView.{SlotView}

pub pieces_at : (base i : ℕ) (slots : List (Option Slotted)) → i < 128 → place (pieces_from long_space base slots) i ≡ kept_at ((base + i) % long_space) slots
unfolding pieces_from
pieces_at base i slots below = get_or-map-range_with_len (λ i. kept_at ((base + i) % long_space) slots) 0 128 i i None below (omega arith)

pub pieces_past : (base i : ℕ) (slots : List (Option Slotted)) → 128 ≤ i → place (pieces_from long_space base slots) i ≡ None
unfolding pieces_from
pieces_past base i slots past =
    get_or_past (map (λ i. kept_at ((base + i) % long_space) slots) (range_with_len 0 128)) i None (omega (arith, length-map-range_with_len (λ i. kept_at ((base + i) % long_space) slots) 0 128))

pub low_none : (base gap end : ℕ) (slots : List (Option Slotted)) (pieces : List (Option SlotPiece)) → IsWindow long_space base gap end slots → pieces_from long_space base slots ≡ pieces → (j : ℕ) → j < gap → place pieces j ≡ None
low_none base gap end slots pieces w is j below =
    let most : gap ≤ 128 = w.low_within in
    ap (λ (l : List (Option SlotPiece)). place l j) (sym is) ∙ pieces_at base j slots (omega arith) ∙ w.low j below

pub high_none : (base gap end : ℕ) (slots : List (Option Slotted)) (pieces : List (Option SlotPiece)) → IsWindow long_space base gap end slots → pieces_from long_space base slots ≡ pieces → (j : ℕ) → end ≤ j → place pieces j ≡ None
high_none base gap end slots pieces w is j past = elim (cases_lt j 128) [
  | inl below ↦ ap (λ (l : List (Option SlotPiece)). place l j) (sym is) ∙ pieces_at base j slots below ∙ w.high j past below
  | inr out ↦ ap (λ (l : List (Option SlotPiece)). place l j) (sym is) ∙ pieces_past base j slots out
]

pub past_none : (base : ℕ) (slots : List (Option Slotted)) (pieces : List (Option SlotPiece)) → pieces_from long_space base slots ≡ pieces → (j : ℕ) → 128 ≤ j → place pieces j ≡ None
past_none base slots pieces is j out = ap (λ (l : List (Option SlotPiece)). place l j) (sym is) ∙ pieces_past base j slots out

pub place_kept : (base i n : ℕ) (slots : List (Option Slotted)) (pieces : List (Option SlotPiece)) → pieces_from long_space base slots ≡ pieces → i < 128 → n ≡ (base + i) % long_space → place pieces i ≡ kept_at n slots
place_kept base i n slots pieces is below at = ap (λ (l : List (Option SlotPiece)). place l i) (sym is) ∙ pieces_at base i slots below ∙ ap (λ m. kept_at m slots) (sym at)

place_apart : (base i j : ℕ) → base < long_space → i < 128 → j < 128 → (base + i) % long_space ≡ (base + j) % long_space → i ≡ j
place_apart base i j based bi bj same = omega arith

same_test : (base i j : ℕ) → base < long_space → i < 128 → j < 128 → nat_eq ((base + j) % long_space) ((base + i) % long_space) ≡ nat_eq j i
same_test base i j based bi bj = by_test (nat_eq j i) refl
  where
    by_test : (t : Bool) → nat_eq j i ≡ t → nat_eq ((base + j) % long_space) ((base + i) % long_space) ≡ nat_eq j i
    by_test true e = let same : j ≡ i = grind (arith, nat_tests) in let f : nat_eq ((base + i) % long_space) ((base + i) % long_space) ≡ true = grind (arith, nat_tests) in ap (λ k. nat_eq ((base + k) % long_space) ((base + i) % long_space)) same ∙ f ∙ sym e
    by_test false e = by_other (nat_eq ((base + j) % long_space) ((base + i) % long_space)) refl
      where
        by_other : (u : Bool) → nat_eq ((base + j) % long_space) ((base + i) % long_space) ≡ u → nat_eq ((base + j) % long_space) ((base + i) % long_space) ≡ nat_eq j i
        by_other true f = let g : (base + j) % long_space ≡ (base + i) % long_space = grind (arith, nat_tests) in let h : j ≡ i = place_apart base j i based bj bi g in absurd (grind (arith, nat_tests))
        by_other false f = f ∙ sym e

none_either : (b : Bool) (v : Option SlotPiece) → v ≡ None → cond b v None ≡ None
none_either true v e = e
none_either false v e = refl

-- what a slot that changes leaves of the places
pub changed_places : (base i n : ℕ) (v : Option SlotPiece) (old new : List (Option Slotted)) (pieces : List (Option SlotPiece)) → base < long_space → i < 128 → n ≡ (base + i) % long_space → pieces_from long_space base old ≡ pieces
    → ((other : ℕ) → kept_at other new ≡ cond (nat_eq other n) v (kept_at other old)) → (j : ℕ) → place (pieces_from long_space base new) j ≡ cond (nat_eq j i) v (place pieces j)
changed_places base i n v old new pieces based below at is kept j = elim (cases_lt j 128) [
  | inl bj ↦
      let before : place pieces j ≡ kept_at ((base + j) % long_space) old = place_kept base j ((base + j) % long_space) old pieces is bj refl in
      let test : nat_eq ((base + j) % long_space) n ≡ nat_eq j i = ap (λ m. nat_eq ((base + j) % long_space) m) at ∙ same_test base i j based below bj in
      pieces_at base j new bj ∙ kept ((base + j) % long_space) ∙ ap (λ b. cond b v (kept_at ((base + j) % long_space) old)) test ∙ ap (λ (o : Option SlotPiece). cond (nat_eq j i) v o) (sym before)
  | inr out ↦
      let f : nat_eq j i ≡ false = grind (arith, nat_tests) in
      pieces_past base j new out ∙ rw f (sym (past_none base old pieces is j out))
]

option_cases : (o : Option SlotPiece) → (o ≡ None) ⊎ (o ≢ None)
option_cases None = inl refl
option_cases (Some p) = inr (λ h. cc)

index_back : (base n : ℕ) → base < long_space → n < long_space → (base + (n + long_space - base) % long_space) % long_space ≡ n
index_back base n lb ln = omega arith

-- Of places of which the first so many are empty, nothing is kept behind the last.
far_none : (base gap end count k : ℕ) (slots : List (Option Slotted)) → IsWindow long_space base gap end slots → ((j : ℕ) → j < count → j < 128 → kept_at ((base + j) % long_space) slots ≡ None) → 128 ≤ k → k < count + 128
    → kept_at ((base + k) % long_space) slots ≡ None
far_none base gap end count k slots w none out within = elim (option_cases (kept_at ((base + k) % long_space) slots)) [
  | inl e ↦ e
  | inr there ↦
      let based : base < long_space = w.based in
      let n : ℕ = (base + k) % long_space in
      let at : ((base + k) % long_space + long_space - base) % long_space < 128 = w.window ((base + k) % long_space) (omega arith) there in
      let back : (base + ((base + k) % long_space + long_space - base) % long_space) % long_space ≡ (base + k) % long_space = index_back base ((base + k) % long_space) based (omega arith) in
      let far : ((base + k) % long_space + long_space - base) % long_space < count = far_index base k count based out within at in
      absurd (there (ap (λ m. kept_at m slots) (sym back) ∙ none (((base + k) % long_space + long_space - base) % long_space) far at))
]
  where
    far_index : (base k count : ℕ) → base < long_space → 128 ≤ k → k < count + 128 → ((base + k) % long_space + long_space - base) % long_space < 128 → ((base + k) % long_space + long_space - base) % long_space < count
    far_index base k count lb out within at = omega arith

shift_at : (base count i : ℕ) → ((base + count) % long_space + i) % long_space ≡ (base + (count + i)) % long_space
shift_at base count i = omega arith

shift_index : (base count n : ℕ) → base < long_space → n < long_space → (n + long_space - base) % long_space < 128 → count ≤ (n + long_space - base) % long_space → (n + long_space - (base + count) % long_space) % long_space < 128
shift_index base count n lb ln at most = omega arith

empty_first : (base count : ℕ) (slots : List (Option Slotted)) (pieces : List (Option SlotPiece)) → pieces_from long_space base slots ≡ pieces → ((j : ℕ) → j < count → place pieces j ≡ None) → (j : ℕ) → j < count → j < 128 → kept_at ((base + j) % long_space) slots ≡ None
empty_first base count slots pieces is none j below within = sym (place_kept base j ((base + j) % long_space) slots pieces is within refl) ∙ none j below

pub shift_window : (base gap end count base' gap' end' : ℕ) (slots : List (Option Slotted)) (pieces : List (Option SlotPiece)) → IsWindow long_space base gap end slots → pieces_from long_space base slots ≡ pieces
    → ((j : ℕ) → j < count → place pieces j ≡ None) → base' ≡ (base + count) % long_space → gap' ≡ gap - count → end' ≡ end - count → IsWindow long_space base' gap' end' slots
shift_window base gap end count base' gap' end' slots pieces w is none base_is gap_is end_is =
    let based : base < long_space = w.based in
    let low_most : gap ≤ 128 = w.low_within in
    let high_most : end ≤ 128 = w.high_within in
    let empty = empty_first base count slots pieces is none in
    let at : (i : ℕ) → (base' + i) % long_space ≡ (base + (count + i)) % long_space = λ i. ap (λ n. (n + i) % long_space) base_is ∙ shift_at base count i in
    record {
      based = omega arith;
      low_within = omega arith;
      high_within = omega arith;
      low = λ i below. ap (λ n. kept_at n slots) (at i) ∙ w.low (count + i) (omega arith);
      high = λ i past within. ap (λ n. kept_at n slots) (at i) ∙ elim (cases_lt (count + i) 128) [
        | inl near ↦ w.high (count + i) (omega arith) near
        | inr far ↦ far_none base gap end count (count + i) slots w empty far (omega arith)
      ];
      window = λ number within there.
          let old : (number + long_space - base) % long_space < 128 = w.window number within there in
          let new : (number + long_space - (base + count) % long_space) % long_space < 128 = elim (cases_lt ((number + long_space - base) % long_space) count) [
            | inl below ↦ absurd (there (ap (λ m. kept_at m slots) (sym (index_back base number based within)) ∙ empty ((number + long_space - base) % long_space) below old))
            | inr past ↦ shift_index base count number based within old past
          ] in
          rw base_is new;
    }

pub shift_places : (base gap end count base' : ℕ) (slots : List (Option Slotted)) (pieces : List (Option SlotPiece)) → IsWindow long_space base gap end slots → pieces_from long_space base slots ≡ pieces
    → ((j : ℕ) → j < count → place pieces j ≡ None) → base' ≡ (base + count) % long_space → (j : ℕ) → place (pieces_from long_space base' slots) j ≡ place pieces (j + count)
shift_places base gap end count base' slots pieces w is none base_is j =
    let empty = empty_first base count slots pieces is none in
    let at : (base' + j) % long_space ≡ (base + (count + j)) % long_space = ap (λ n. (n + j) % long_space) base_is ∙ shift_at base count j in
    let swap : count + j ≡ j + count = omega arith in
    elim (cases_lt j 128) [
      | inl below ↦ elim (cases_lt (j + count) 128) [
        | inl near ↦ pieces_at base' j slots below ∙ ap (λ n. kept_at n slots) at ∙ sym (place_kept base (j + count) ((base + (count + j)) % long_space) slots pieces is near (ap (λ n. (base + n) % long_space) swap))
        | inr far ↦ pieces_at base' j slots below ∙ ap (λ n. kept_at n slots) at ∙ far_none base gap end count (count + j) slots w empty (omega arith) (omega arith) ∙ sym (past_none base slots pieces is (j + count) far)
      ]
      | inr out ↦ pieces_past base' j slots out ∙ sym (past_none base slots pieces is (j + count) (omega arith))
    ]

pub skip_window : (base gap end to : ℕ) (slots : List (Option Slotted)) (pieces : List (Option SlotPiece)) → IsWindow long_space base gap end slots → pieces_from long_space base slots ≡ pieces → to ≤ 128
    → ((j : ℕ) → j < to → place pieces j ≡ None) → IsWindow long_space base to end slots
skip_window base gap end to slots pieces w is most none = record {
  based = w.based;
  low_within = most;
  high_within = w.high_within;
  low = λ i below. empty_first base to slots pieces is none i below (omega arith);
  high = w.high;
  window = w.window;
}

near_index : (base i n other : ℕ) → base < long_space → i < 128 → n ≡ (base + i) % long_space → other < long_space → (other + long_space - base) % long_space < 128 → ((n + long_space - other) % long_space < 128) ⊎ ((other + long_space - n) % long_space < 128)
near_index base i n other lb below at lo window = elim (cases_lt i ((other + long_space - base) % long_space)) [
  | inl less ↦ inr (omega arith)
  | inr more ↦ inl (omega arith)
]

pub put_near : (base gap end i n : ℕ) (slots : List (Option Slotted)) → IsWindow long_space base gap end slots → i < 128 → n ≡ (base + i) % long_space → IsNearAll long_space n slots
put_near base gap end i n slots w below at other within there = near_index base i n other w.based below at within (w.window other within there)

-- Slots in which something changed at one place are between the places that are told.
pub changed_window : (base gap end i n gap' end' : ℕ) (v : Option SlotPiece) (old new : List (Option Slotted)) → IsWindow long_space base gap end old → i < 128 → n ≡ (base + i) % long_space
    → ((other : ℕ) → kept_at other new ≡ cond (nat_eq other n) v (kept_at other old)) → gap' ≤ gap → end ≤ end' → end' ≤ 128 → ((v ≡ None) ⊎ ((gap' ≤ i) × (i < end'))) → IsWindow long_space base gap' end' new
changed_window base gap end i n gap' end' v old new w below at kept gap_is end_is end_most what =
    let based : base < long_space = w.based in
    let low_most : gap ≤ 128 = w.low_within in
    record {
      based = w.based;
      low_within = omega arith;
      high_within = end_most;
      low = λ k less. kept ((base + k) % long_space) ∙ by_place k (omega arith) (nat_eq ((base + k) % long_space) n) refl (λ e. w.low k (omega arith)) (λ e. elim what [ inl none ↦ none | inr t ↦ absurd (let same : k ≡ i = e in let a : gap' ≤ i = t.0 in omega arith) ]);
      high = λ k past within. kept ((base + k) % long_space) ∙ by_place k within (nat_eq ((base + k) % long_space) n) refl (λ e. w.high k (omega arith) within) (λ e. elim what [ inl none ↦ none | inr t ↦ absurd (let same : k ≡ i = e in let a : i < end' = t.1 in omega arith) ]);
      window = λ number within there. by_number number within (nat_eq number n) refl there;
    }
  where
    by_place : (k : ℕ) → k < 128 → (b : Bool) → nat_eq ((base + k) % long_space) n ≡ b → (Unit {0} → kept_at ((base + k) % long_space) old ≡ None) → (k ≡ i → v ≡ None) → cond b v (kept_at ((base + k) % long_space) old) ≡ None
    by_place k within true e f g = let same : (base + k) % long_space ≡ n = grind (arith, nat_tests) in let based : base < long_space = w.based in g (place_apart base k i based within below (same ∙ at))
    by_place k within false e f g = f tt

    by_number : (number : ℕ) → number < long_space → (b : Bool) → nat_eq number n ≡ b → kept_at number new ≢ None → (number + long_space - base) % long_space < 128
    by_number number within true e there = let same : number ≡ n = grind (arith, nat_tests) in let based : base < long_space = w.based in omega arith
    by_number number within false e there = w.window number within (λ none. there (kept number ∙ ap (λ b. cond b v (kept_at number old)) e ∙ none))

pub viewed : (o : Option SlotPiece) (v : SlotView) → Some v ≡ option_map view_of o → (p : SlotPiece) × (o ≡ Some p) × (v ≡ view_of p)
viewed None v e = absurd (cc)
viewed (Some p) v e = (p, refl, cc)

pub joined_past : (pieces : List (Option SlotPiece)) (n more : ℕ) → ((j : ℕ) → n ≤ j → j < n + more → place pieces j ≡ None) → joined_there pieces (n + more) ≡ joined_there pieces n
joined_past pieces n zero none = let e : n + 0 ≡ n = omega arith in rw e refl
joined_past pieces n (suc more) none =
    let e : n + suc more ≡ suc (n + more) = omega arith in
    let last : octets_there (place pieces (n + more)) ≡ [] = ap octets_there (none (n + more) (omega arith) (omega arith)) in
    ap (joined_there pieces) e ∙ ap (λ l. joined_there pieces (n + more) ++ l) last ∙ append-nil (joined_there pieces (n + more)) ∙ joined_past pieces n more (λ j low below. none j low (omega arith))

pub nothing_kept : (base gap end n : ℕ) (slots : List (Option Slotted)) (pieces : List (Option SlotPiece)) → IsWindow long_space base gap end slots → pieces_from long_space base slots ≡ pieces → ((j : ℕ) → place pieces j ≡ None) → n < long_space → kept_at n slots ≡ None
nothing_kept base gap end n slots pieces w is none within = elim (option_cases (kept_at n slots)) [
  | inl e ↦ e
  | inr there ↦
      let based : base < long_space = w.based in
      let at : (n + long_space - base) % long_space < 128 = w.window n within there in
      absurd (there (ap (λ m. kept_at m slots) (sym (index_back base n based within)) ∙ empty_first base 128 slots pieces is (λ j below. none j) ((n + long_space - base) % long_space) at at))
]

pub empty_window : (slots : List (Option Slotted)) → ((n : ℕ) → n < long_space → kept_at n slots ≡ None) → IsWindow long_space 0 0 0 slots
empty_window slots none = record {
  based = omega arith;
  low_within = omega arith;
  high_within = omega arith;
  low = λ i below. absurd (omega arith);
  high = λ i past within. none ((0 + i) % long_space) (omega arith);
  window = λ number within there. absurd (there (none number within));
}

pub empty_places : (slots : List (Option Slotted)) → ((n : ℕ) → n < long_space → kept_at n slots ≡ None) → (i : ℕ) → place (pieces_from long_space 0 slots) i ≡ None
empty_places slots none i = elim (cases_lt i 128) [
  | inl below ↦ pieces_at 0 i slots below ∙ none ((0 + i) % long_space) (omega arith)
  | inr out ↦ pieces_past 0 i slots out
]

-- Where the end is not above the gap, no piece waits.
pub narrow : (base gap end gap' : ℕ) (slots : List (Option Slotted)) → IsWindow long_space base gap end slots → gap' ≡ cond (nat_lt gap end) gap 128 → IsWindow long_space base gap' end slots
narrow base gap end gap' slots w is = by_test (nat_lt gap end) refl is
  where
    by_test : (t : Bool) → nat_lt gap end ≡ t → gap' ≡ cond t gap 128 → IsWindow long_space base gap' end slots
    by_test true e is = subst (λ (n : ℕ). IsWindow long_space base n end slots) (sym is) w
    by_test false e is =
        let le : end ≤ gap = grind (arith, nat_tests) in
        record {
          based = w.based;
          low_within = omega arith;
          high_within = w.high_within;
          low = λ i below. elim (cases_lt i gap) [
            | inl less ↦ w.low i less
            | inr more ↦ w.high i (omega arith) (omega arith)
          ];
          high = w.high;
          window = w.window;
        }
