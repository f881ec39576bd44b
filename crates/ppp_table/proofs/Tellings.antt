-- One link after the other is told.
use Rattle.std.proofs.Common.{◌≡◌, ◌≤◌, ◌+◌, ◌-◌, ℕ, zero, suc, Option, Some, IfSome, List, length, slice_set, slice_index_or, refl, ap, sym, subst, ◌∙◌, arith}
use Rattle.ppp_table_parts.proofs.SideLemmas.{each_first, first_length, one_more}
use Rattle.ppp_table_parts.specs.Side.{SideState, idle}
use Rattle.ppp_table_parts.specs.Sides.{at_link}

pub of_some : (o : Option ℕ) (x n : ℕ) → o ≡ Some x → IfSome o (λ (l : ℕ). l ≡ n) → x ≡ n
of_some o x n e f = subst (λ (o : Option ℕ). IfSome o (λ (l : ℕ). l ≡ n)) e f

pub next : (change : ℕ → SideState → SideState) (number link : ℕ) (sides now then : List SideState) → 1 ≤ number → number ≤ 16 → link ≡ number → length sides ≡ 16
    → now ≡ each_first change (number - 1) 1 sides → then ≡ at_link link (change link) now → then ≡ each_first change (number + 1 - 1) 1 sides
next change zero link sides now then from to same sixteen e f = absurd (grind arith)
next change (suc n) link sides now then from to same sixteen e f =
    let a : suc n - 1 ≡ n = omega arith in
    let b : suc n + 1 - 1 ≡ suc n = omega arith in
    let p : 1 + n ≡ suc n = omega arith in
    f ∙ rw (same, e, a, b) (subst (λ (k : ℕ). slice_set (each_first change n 1 sides) n (change k (slice_index_or (each_first change n 1 sides) n idle)) ≡ each_first change (suc n) 1 sides)
    p (one_more change n 1 sides (rw sixteen (omega (arith, to)))))
