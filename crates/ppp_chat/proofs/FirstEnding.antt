-- What is found first, and that none is before it.
use Rattle.std.proofs.Common.{ℕ, ◌≡◌, ◌+◌, ◌≤◌, ◌<◌, zero, suc, Option, None, Some, refl, sym, ap, ◌∙◌, arith, ◌⊎◌, inl, inr}
use Rattle.std.proofs.lemmas.Bool.{cases_lt}
use Rattle.ppp_chat.specs.Ending.{first_from, here_or}
use Rattle.ppp_chat.specs.declared.ending.Ending.{Ending}

-- from a place on, the first of so many is at this place and ends so
abbrev pub IsFirstFrom : (ℕ → Option Ending) → ℕ → ℕ → ℕ → Ending → Type 0
IsFirstFrom ends from count place how = (ends place ≡ Some how) × (from ≤ place) × (place < from + count) × ((i : ℕ) → from ≤ i → i < place → ends i ≡ None)

pair-place : (a b : ℕ) (x y : Ending) → ◌≡◌ {A = Option (ℕ × Ending)} (Some (a, x)) (Some (b, y)) → (a ≡ b) × (x ≡ y)
pair-place a b x y is =
    let pair : ◌≡◌ {A = ℕ × Ending} (a, x) (b, y) = cc (is) in
    (ap (λ (p : ℕ × Ending). p.0) pair, ap (λ (p : ℕ × Ending). p.1) pair)

none-to : (ends : ℕ → Option Ending) (from place : ℕ) → ends from ≡ None → ((i : ℕ) → suc from ≤ i → i < place → ends i ≡ None) → (i : ℕ) → from ≤ i → i < place → ends i ≡ None
none-to ends from place here behind i above below =
    elim (cases_lt from i) [
      | inl later ↦ behind i (omega arith) below
      | inr now ↦ let same : i ≡ from = omega arith in rw same here
    ]

first-at : (ends : ℕ → Option Ending) (from count place : ℕ) (how : Ending) (o : Option Ending) → ends from ≡ o
    → here_or from o (first_from ends (suc from) count) ≡ Some (place, how)
    → (first_from ends (suc from) count ≡ Some (place, how) → IsFirstFrom ends (suc from) count place how) → IsFirstFrom ends from (suc count) place how
first-at ends from count place how None here is later =
    let found : IsFirstFrom ends (suc from) count place how = later is in
    (found.0, omega (arith, found.1), omega (arith, found.2), none-to ends from place here found.3)
first-at ends from count place how (Some ending) here is later =
    let same : (from ≡ place) × (ending ≡ how) = pair-place from place ending how is in
    (ap ends (sym same.0) ∙ here ∙ ap (λ (e : Ending). Some e) same.1, omega (arith, same.0), omega (arith, same.0), λ i above below. absurd (omega (arith, same.0)))

first-found : (ends : ℕ → Option Ending) (from count place : ℕ) (how : Ending) → first_from ends from count ≡ Some (place, how) → IsFirstFrom ends from count place how
first-found ends from zero place how is = absurd (cc (is))
first-found ends from (suc count) place how is = first-at ends from count place how (ends from) refl is (first-found ends (suc from) count place how)

pub found-first : (ends : ℕ → Option Ending) (count place : ℕ) (how : Ending) → first_from ends 0 count ≡ Some (place, how)
    → (ends place ≡ Some how) × (place < count) × ((i : ℕ) → i < place → ends i ≡ None)
found-first ends count place how is =
    let first : IsFirstFrom ends 0 count place how = first-found ends 0 count place how is in
    (first.0, omega (arith, first.2), λ i below. first.3 i (omega arith) below)

none-at-all : (ends : ℕ → Option Ending) (from count : ℕ) (o : Option Ending) → ends from ≡ o → here_or from o (first_from ends (suc from) count) ≡ None
    → (ends from ≡ None) × (first_from ends (suc from) count ≡ None)
none-at-all ends from count None here is = (here, is)
none-at-all ends from count (Some ending) here is = absurd (cc (is))

none-from : (ends : ℕ → Option Ending) (from count : ℕ) → first_from ends from count ≡ None → (i : ℕ) → from ≤ i → i < from + count → ends i ≡ None
none-from ends from zero is i above below = absurd (omega arith)
none-from ends from (suc count) is i above below =
    let none : (ends from ≡ None) × (first_from ends (suc from) count ≡ None) = none-at-all ends from count (ends from) refl is in
    none-to ends from (from + suc count) none.0 (λ j over under. none-from ends (suc from) count none.1 j over (omega (arith, under))) i above below

pub found-none : (ends : ℕ → Option Ending) (count : ℕ) → first_from ends 0 count ≡ None → (i : ℕ) → i < count → ends i ≡ None
found-none ends count is i below = none-from ends 0 count is i (omega arith) (omega arith)
