-- The kinds of the table, found by their names.
use Rattle.std.proofs.Common.{◌≡◌, ◌+◌, ◌-◌, ◌*◌, ◌%◌, ◌≤◌, ℕ, Bool, true, false, List, [], ◌∷◌, length, get_or, Option, Some, None, refl, ap, sym, ◌∙◌, subst, inl, inr, arith}
use Rattle.std.specs.Prelude.{is_some, nat_le, ◌&&◌, ◌==◌}
use Rattle.std.specs.List.{list_all}
use Rattle.std.proofs.lemmas.Bool.Decides.{eqb_tells, nat_tests}
use Rattle.ppp_base.specs.declared.hook_target.HookTarget.{HookTarget}
use Rattle.ppp_mark.specs.Table.{Row, is_kind, name_in, name_of, owner_in, row_in, row_of, stands_in, table}
use Rattle.ppp_mark.proofs.LinesLemmas.{is_free}
use Rattle.ppp_report.specs.declared.kinds.TheConstants.{KINDS}

pub first-true : (a b : Bool) → (a && b) ≡ true → a ≡ true
first-true true b e = refl
first-true false b e = absurd (cc)

pub rest-true : (a b : Bool) → (a && b) ≡ true → b ≡ true
rest-true true b e = e
rest-true false b e = absurd (cc)

row_found : (p : Row → Bool) (rows : List Row) (k : ℕ) → list_all p rows ≡ true → is_some (row_in rows k) ≡ true
    → (r : Row) × (row_in rows k ≡ Some r) × (r.kind ≡ k) × (p r ≡ true)
row_found p [] k all some = absurd (cc some)
row_found p (r ∷ rows) k all some = elim (eqb_tells r.kind k) [
  | inl q ↦ (r, rw q.0 refl, q.1, first-true (p r) (list_all p rows) all)
  | inr q ↦ let found = row_found p rows k (rest-true (p r) (list_all p rows) all) (rw q.0 at some) in (found.0, rw q.0 found.1, found.2, found.3)
]

-- a test that each row passes, and its row passes
by_row : (p : Row → Bool) (k : ℕ) → list_all p table ≡ true → is_kind k ≡ true → (r : Row) × (name_of k ≡ r.name) × (r.kind ≡ k) × (p r ≡ true)
by_row p k all some = let found = row_found p table k all some in (found.0, ap name_in found.1, found.2, found.3)

owner_is_kind : (t : HookTarget) (row : Option Row) → owner_in t row ≡ true → is_some row ≡ true
owner_is_kind t None e = absurd (cc e)
owner_is_kind t (Some r) e = refl

pub stands_is_kind : (t : HookTarget) (k : ℕ) → stands_in t k ≡ true → is_kind k ≡ true
stands_is_kind t k e = owner_is_kind t (row_of k) e

-- the kind that is guessed of a name
abbrev pub place_of : List ℕ → ℕ
place_of name = get_or name 0 0 * 50 + get_or name 1 0 * 9 + get_or name (length name - 2) 0 * 25 + length name * 10

abbrev pub guessed : List ℕ → ℕ
guessed name = get_or KINDS (place_of name % 64) 0

guess_back : list_all (λ r. guessed r.name == r.kind) table ≡ true
guess_back = refl

long_enough : list_all (λ r. nat_le 2 (length r.name)) table ≡ true
long_enough = refl

short_enough : list_all (λ r. nat_le (length r.name) 11) table ≡ true
short_enough = refl

no_space_in : list_all (λ r. is_free 32 r.name) table ≡ true
no_space_in = refl

no_newline_in : list_all (λ r. is_free 10 r.name) table ≡ true
no_newline_in = refl

same_number : (a b : ℕ) → (a == b) ≡ true → a ≡ b
same_number a b e = grind (arith, nat_tests, e)

is_within : (a b : ℕ) → nat_le a b ≡ true → a ≤ b
is_within a b e = grind (arith, nat_tests, e)

pub guess_is : (k : ℕ) (name : List ℕ) → is_kind k ≡ true → name ≡ name_of k → guessed name ≡ k
guess_is k name some is =
    let r = by_row (λ r. guessed r.name == r.kind) k guess_back some in
    ap guessed (is ∙ r.1) ∙ same_number (guessed r.0.name) r.0.kind r.3 ∙ r.2

pub name_length : (k : ℕ) (name : List ℕ) → is_kind k ≡ true → name ≡ name_of k → (2 ≤ length name) × (length name ≤ 11)
name_length k name some is =
    let r = by_row (λ r. nat_le 2 (length r.name)) k long_enough some in
    let s = by_row (λ r. nat_le (length r.name) 11) k short_enough some in (
      subst (λ n. 2 ≤ n) (sym (ap length (is ∙ r.1))) (is_within 2 (length r.0.name) r.3),
      subst (λ n. n ≤ 11) (sym (ap length (is ∙ s.1))) (is_within (length s.0.name) 11 s.3),
    )

pub name_no_space : (k : ℕ) → is_kind k ≡ true → is_free 32 (name_of k) ≡ true
name_no_space k some = let r = by_row (λ r. is_free 32 r.name) k no_space_in some in ap (is_free 32) r.1 ∙ r.3

pub name_no_newline : (k : ℕ) → is_kind k ≡ true → is_free 10 (name_of k) ≡ true
name_no_newline k some = let r = by_row (λ r. is_free 10 r.name) k no_newline_in some in ap (is_free 10) r.1 ∙ r.3

-- names are one to one
pub name_one : (j k : ℕ) → is_kind j ≡ true → is_kind k ≡ true → name_of j ≡ name_of k → j ≡ k
name_one j k a b same = sym (guess_is j (name_of j) a refl) ∙ guess_is k (name_of j) b same
