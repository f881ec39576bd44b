-- The members of a bundle are those that came in and haven't gone out, in link order.
use Rattle.std.proofs.Common.{◌≡◌, ℕ, zero, suc, ◌+◌, ◌<◌, ◌≤◌, Bool, true, false, cond, Option, None, Some, is_some, List, [], ◌∷◌, ◌++◌, refl, ap, sym, subst, ◌∙◌, append_assoc, append-nil, arith}
use Rattle.std.proofs.lemmas.Bool.Decides.{nat_tests}
use Rattle.std.specs.Prelude.{if◌then◌else◌, ◌==◌, ◌||◌, nat_lt, not}
use Rattle.ppp_mp.specs.declared.members.MemberView.{MemberView}
use Rattle.ppp_unit_parts.specs.declared.member.Member.{Member}
use Rattle.ppp_unit_parts.specs.Member.{AreInOrder, has_link, is_link, views_of, with_member, without}
use Rattle.ppp_unit_parts.proofs.MemberFacts.{behind, or_parts}
use Rattle.ppp_bundle.specs.History.{Moment, mru_in, view_of, views_up_to}
use Rattle.ppp_bundle.specs.Lives.{mru_of}

-- WHAT EACH PEER TAKES

has_by : (first : Bool) (mru : ℕ) (rest : Bool) (others : Option ℕ) → rest ≡ is_some others → (first || rest) ≡ is_some (if first then Some mru else others)
has_by true mru rest others e = refl
has_by false mru rest others e = e

pub has_is : (link : ℕ) (members : List Member) → has_link link members ≡ is_some (mru_of link members)
has_is link [] = refl
has_is link (m ∷ members) = has_by (is_link link m) m.mru (has_link link members) (mru_of link members) (has_is link members)

mru_more : (less same there : Bool) (low : ℕ) (new m : Member) (x : ℕ) (members : List Member) → nat_lt m.link new.link ≡ less → (new.link == x) ≡ same → (m.link == x) ≡ there → (m.link == new.link) ≡ false
    → AreInOrder low (m ∷ members) → mru_of x (with_member new members) ≡ (if same then Some new.mru else mru_of x members)
    → mru_of x (with_member new (m ∷ members)) ≡ (if same then Some new.mru else (if there then Some m.mru else mru_of x members))
mru_more true same there low new m x members e f g other order rest =
    let not_above : nat_lt new.link m.link ≡ false = grind (arith, nat_tests) in
    rw (e, not_above, g) (either same there f g)
  where
    either : (a b : Bool) → (new.link == x) ≡ a → (m.link == x) ≡ b → (if b then Some m.mru else mru_of x (with_member new members)) ≡ (if a then Some new.mru else (if b then Some m.mru else mru_of x members))
    either true true h i = absurd (grind (arith, nat_tests))
    either true false h i = subst (λ (c : Bool). mru_of x (with_member new members) ≡ (if c then Some new.mru else mru_of x members)) (sym f ∙ h) rest
    either false true h i = refl
    either false false h i = subst (λ (c : Bool). mru_of x (with_member new members) ≡ (if c then Some new.mru else mru_of x members)) (sym f ∙ h) rest
mru_more false same there low new m x members e f g other order rest =
    let is_above : nat_lt new.link m.link ≡ true = grind (arith, nat_tests) in
    let before : new.link ≤ m.link = grind (arith, nat_tests) in
    let b = behind m.link new.link members order.4 before in
    rw (e, is_above, b.1, b.2, f, g) refl

mrus_from : (low : ℕ) (new : Member) (x : ℕ) (members : List Member) → AreInOrder low members → has_link new.link members ≡ false
    → mru_of x (with_member new members) ≡ (if new.link == x then Some new.mru else mru_of x members)
mrus_from low new x [] order other = refl
mrus_from low new x (m ∷ members) order other =
    let parts = or_parts (is_link new.link m) (has_link new.link members) other in
    mru_more (nat_lt m.link new.link) (new.link == x) (m.link == x) low new m x members refl refl refl parts.0 order (mrus_from m.link new x members order.4 parts.1)

pub mru_with : (new : Member) (x : ℕ) (members : List Member) → AreInOrder 0 members → has_link new.link members ≡ false
    → mru_of x (with_member new members) ≡ (if new.link == x then Some new.mru else mru_of x members)
mru_with new x members order other = mrus_from 0 new x members order other

mru_left : (here same there : Bool) (m : Member) (left : List Member) (rest : Option ℕ) (link x : ℕ) → (m.link == link) ≡ here → (link == x) ≡ same → (m.link == x) ≡ there
    → mru_of x left ≡ (if same then None else rest) → mru_of x (cond (not here) (m ∷ left) left) ≡ (if same then None else (if there then Some m.mru else rest))
mru_left true true there m left rest link x e f g h = h
mru_left true false true m left rest link x e f g h = absurd (grind (arith, nat_tests))
mru_left true false false m left rest link x e f g h = h
mru_left false true true m left rest link x e f g h = absurd (grind (arith, nat_tests))
mru_left false true false m left rest link x e f g h = rw g h
mru_left false false true m left rest link x e f g h = rw g refl
mru_left false false false m left rest link x e f g h = rw g h

both_none : (b : Bool) (o : Option ℕ) → o ≡ None → o ≡ (if b then None else o)
both_none true o e = e
both_none false o e = refl

pub mru_without : (link x : ℕ) (members : List Member) → mru_of x (without link members) ≡ (if link == x then None else mru_of x members)
mru_without link x [] = both_none (link == x) None refl
mru_without link x (m ∷ members) =
    mru_left (m.link == link) (link == x) (m.link == x) m (without link members) (mru_of x members) link x refl refl refl (mru_without link x members)

-- IN LINK ORDER

-- the views of so many links behind a link
abbrev views_behind : (low count : ℕ) → (ℕ → Option ℕ) → List MemberView
views_behind low zero mru = []
views_behind low (suc count) mru = view_of (low + 1) (mru (low + 1)) ++ views_behind (low + 1) count mru

behind_end : (low count : ℕ) (mru : ℕ → Option ℕ) → views_behind low (suc count) mru ≡ views_behind low count mru ++ view_of (low + suc count) (mru (low + suc count))
behind_end low zero mru = let e : low + 1 ≡ low + suc zero = omega arith in append-nil (view_of (low + 1) (mru (low + 1))) ∙ ap (λ (n : ℕ). view_of n (mru n)) e
behind_end low (suc count) mru =
    let e : low + 1 + suc count ≡ low + suc (suc count) = omega arith in
    ap (λ (x : List MemberView). view_of (low + 1) (mru (low + 1)) ++ x) (behind_end (low + 1) count mru)
    ∙ sym (append_assoc (view_of (low + 1) (mru (low + 1))) (views_behind (low + 1) count mru) (view_of (low + 1 + suc count) (mru (low + 1 + suc count))))
    ∙ ap (λ (n : ℕ). views_behind low (suc count) mru ++ view_of n (mru n)) e

up_to_is : (count : ℕ) (past : List Moment) → views_up_to count past ≡ views_behind 0 count (λ link. mru_in link past)
up_to_is zero past = refl
up_to_is (suc count) past =
    let e : suc count ≡ 0 + suc count = omega arith in
    ap (λ (x : List MemberView). x ++ view_of (suc count) (mru_in (suc count) past)) (up_to_is count past)
    ∙ ap (λ (n : ℕ). views_behind 0 count (λ link. mru_in link past) ++ view_of n (mru_in n past)) e
    ∙ sym (behind_end 0 count (λ link. mru_in link past))

none_below : (x low : ℕ) (members : List Member) → AreInOrder low members → x ≤ low → mru_of x members ≡ None
none_below x low [] order below = refl
none_below x low (m ∷ members) order below =
    let above : low < m.link = order.0 in
    let other : (m.link == x) ≡ false = grind (arith, nat_tests) in
    rw other (none_below x m.link members order.4 (omega (arith, above, below)))

-- the first of them is the next link, or a later one
views_first : (b : Bool) (low count : ℕ) (m : Member) (members : List Member) (mru : ℕ → Option ℕ) → (m.link == low + 1) ≡ b → AreInOrder low (m ∷ members)
    → ((x : ℕ) → low < x → mru x ≡ mru_of x (m ∷ members))
    → ((low' : ℕ) (rest : List Member) → low' ≡ low + 1 → AreInOrder low' rest → ((x : ℕ) → low' < x → mru x ≡ mru_of x rest) → views_of rest ≡ views_behind low' count mru)
    → views_of (m ∷ members) ≡ views_behind low (suc count) mru
views_first true low count m members mru e order is rest =
    let same : m.link ≡ low + 1 = grind (arith, nat_tests) in
    let here : mru (low + 1) ≡ Some m.mru = is (low + 1) (omega arith) ∙ rw e refl in
    let others : views_of members ≡ views_behind (low + 1) count mru =
    rest (low + 1) members refl (subst (λ (n : ℕ). AreInOrder n members) same order.4)
    (λ x above. (let other : (m.link == x) ≡ false = grind (arith, nat_tests) in is x (omega (arith, above)) ∙ rw other refl)) in
    ap (λ (n : ℕ). record { link = n; mru = m.mru } ∷ views_of members) same
    ∙ ap (λ (x : List MemberView). record { link = low + 1; mru = m.mru } ∷ x) others
    ∙ ap (λ (o : Option ℕ). view_of (low + 1) o ++ views_behind (low + 1) count mru) (sym here)
views_first false low count m members mru e order is rest =
    let above : low < m.link = order.0 in
    let later : low + 1 < m.link = grind (arith, nat_tests) in
    let none : mru (low + 1) ≡ None = is (low + 1) (omega arith) ∙ rw e (none_below (low + 1) m.link members order.4 (omega (arith, later))) in
    rest (low + 1) (m ∷ members) refl (later, order.1, order.2, order.3, order.4) (λ x more. is x (omega (arith, more)))
    ∙ ap (λ (o : Option ℕ). view_of (low + 1) o ++ views_behind (low + 1) count mru) (sym none)

views_from : (count low : ℕ) (members : List Member) (mru : ℕ → Option ℕ) → low + count ≡ 16 → AreInOrder low members → ((x : ℕ) → low < x → mru x ≡ mru_of x members) → views_of members ≡ views_behind low count mru
views_from zero low [] mru e order is = refl
views_from zero low (m ∷ members) mru e order is = let above : low < m.link = order.0 in let most : m.link ≤ 16 = order.1 in absurd (omega (arith, above, most, e))
views_from (suc count) low [] mru e order is =
    views_from count (low + 1) [] mru (omega (arith, e)) tt (λ x above. is x (omega (arith, above)))
    ∙ ap (λ (o : Option ℕ). view_of (low + 1) o ++ views_behind (low + 1) count mru) (sym (is (low + 1) (omega arith)))
views_from (suc count) low (m ∷ members) mru e order is =
    views_first (m.link == low + 1) low count m members mru refl order is
    (λ low' rest same order' is'. views_from count low' rest mru (omega (arith, e, same)) order' is')

pub views_are : (members : List Member) (past : List Moment) → AreInOrder 0 members → ((link : ℕ) → mru_of link members ≡ mru_in link past) → views_of members ≡ views_up_to 16 past
views_are members past order is =
    views_from 16 0 members (λ link. mru_in link past) (omega arith) order (λ x above. sym (is x)) ∙ sym (up_to_is 16 past)
