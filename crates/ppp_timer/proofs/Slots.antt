-- The slots that are due, one by one.
use Rattle.std.proofs.Common.{◌≡◌, ℕ, Bool, true, false, cond, Some, List, [], ◌∷◌, refl, ap, sym, ◌∙◌, zero, suc, arith, find, slice_get, Contains, IsTrue, ◌↔◌}
use Rattle.std.specs.List.{filter}
use Rattle.ppp_timer.specs.declared.slot.Slot.{Slot}
use Rattle.ppp_timer.specs.declared.slot.Slot.TheVariants.{LcpRestart, AuthRestart, AuthEnd, Echo, Hold, IpcpRestart, Idle, Connect}
use Rattle.std.proofs.lemmas.List.Elements.{filter_passes, All-contains}
use Rattle.ppp_timer.specs.Due.{Moments, moment_of, has_come, slots, due_slots}

-- the first that is found is the first that is kept
pub find_first : (test : Slot → Bool) (xs : List Slot) → find test xs ≡ slice_get (filter test xs) 0
find_first test [] = refl
find_first test (x ∷ xs) = go (test x) (find_first test xs)
  where
    go : (b : Bool) → find test xs ≡ slice_get (filter test xs) 0 → cond b (Some x) (find test xs) ≡ slice_get (cond b (x ∷ filter test xs) (filter test xs)) 0
    go true rest = refl
    go false rest = rest

further : (x y : Slot) (xs : List Slot) → Contains xs x → Contains (y ∷ xs) x
further x y xs (k, within, at) = (suc k, omega arith, at)

onto : (test : Slot → Bool) (y x : Slot) (xs : List Slot) → Contains (filter test xs) x → Contains (filter test (y ∷ xs)) x
onto test y x xs there = go (test y) refl
  where
    go : (b : Bool) → test y ≡ b → Contains (filter test (y ∷ xs)) x
    go true is = rw is (further x y (filter test xs) there)
    go false is = rw is there

-- what passes is kept
pub kept : (test : Slot → Bool) (xs : List Slot) (x : Slot) → Contains xs x → test x ≡ true → Contains (filter test xs) x
kept test [] x (k, within, at) passes = absurd (omega arith)
kept test (y ∷ ys) x (zero, within, at) passes =
    let is : test y ≡ true = ap test at ∙ passes in
    rw is (0, omega arith, at)
kept test (y ∷ ys) x (suc k, within, at) passes = onto test y x ys (kept test ys x (k, omega arith, at) passes)

pub each_slot : (slot : Slot) → Contains slots slot
each_slot LcpRestart = (0, omega arith, refl)
each_slot AuthRestart = (1, omega arith, refl)
each_slot AuthEnd = (2, omega arith, refl)
each_slot Echo = (3, omega arith, refl)
each_slot Hold = (4, omega arith, refl)
each_slot IpcpRestart = (5, omega arith, refl)
each_slot Idle = (6, omega arith, refl)
each_slot Connect = (7, omega arith, refl)

-- a slot is among those that are due where its moment has come
pub due_among : (held : Moments) (now : ℕ) (slot : Slot) (answer : Bool) → answer ≡ has_come now (moment_of held slot) → IsTrue answer ↔ Contains (due_slots held now) slot
due_among held now slot true is = (λ t. kept (λ s. has_come now (moment_of held s)) slots slot (each_slot slot) (sym is), λ among. refl)
due_among held now slot false is = (λ f. absurd (cc), λ among. is ∙ All-contains (λ s. has_come now (moment_of held s) ≡ true) (due_slots held now) slot (filter_passes (λ s. has_come now (moment_of held s)) slots) among)
