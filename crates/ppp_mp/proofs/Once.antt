-- At most one rule applies at a time, so what the rules lead to is one.
use Rattle.std.proofs.Common.{◌≡◌, ℕ, ◌<◌, zero, suc, None, Some, sym, ap, subst, ◌∙◌, arith, inl, inr}
use Rattle.std.proofs.lemmas.Bool.{cases_lt}
use Rattle.ppp_mp.specs.Pieces.{Begun}
use Rattle.ppp_mp.specs.Delivered.{Gathering, Rule, Rules, Settles, ruled, behind}
use Rattle.ppp_mp.proofs.RuleLemmas.{inside_rests}
use Rattle.ppp_mp.proofs.Rests.{some_same}

none-some : (x : Gathering) → None ≡ Some x → ⊥
none-some x e = cc

shorter : (mrru below : ℕ) (s a : Gathering) (len more : ℕ) → Begun s.kept s.least more → len < more → ruled mrru below s len (behind s len) ≡ Some a → ⊥
shorter mrru below s a len more begun less applies =
    let t = begun len less in
    none-some a (sym (ap (ruled mrru below s len) t.1 ∙ inside_rests mrru below s len t.0 t.2 t.3) ∙ applies)

pub rule_once : (mrru below : ℕ) (s a b : Gathering) → Rule mrru below s a → Rule mrru below s b → a ≡ b
rule_once mrru below s a b p q = elim (cases_lt p.len q.len) [
  | inl less ↦ absurd (shorter mrru below s a p.len q.len q.begun less p.applies)
  | inr past ↦ elim (cases_lt q.len p.len) [
    | inl more ↦ absurd (shorter mrru below s b q.len p.len p.begun more q.applies)
    | inr same ↦
        let at : p.len ≡ q.len = omega arith in
        some_same a b (sym p.applies ∙ ap (λ n. ruled mrru below s n (behind s n)) at ∙ q.applies)
  ]
]

rules_once : (mrru below : ℕ) (s a b : Gathering) (count : ℕ) → Rules mrru below s count a → Rules mrru below s count b → a ≡ b
rules_once mrru below s a b zero p q = p ∙ sym q
rules_once mrru below s a b (suc count) p q =
    let same : p.0 ≡ q.0 = rules_once mrru below s p.0 q.0 count p.1 q.1 in
    let P = λ (m : Gathering). Rule mrru below m a in
    rule_once mrru below q.0 a b (subst P same p.2) q.2

-- Where more rules were applied, one is applied after the first so many.
goes_further : (mrru below : ℕ) (s b : Gathering) (n m : ℕ) → n < m → Rules mrru below s m b → (mid : Gathering) × Rules mrru below s n mid × ((x : Gathering) × Rule mrru below mid x)
goes_further mrru below s b n zero less p = absurd (omega arith)
goes_further mrru below s b n (suc m) less p = elim (cases_lt n m) [
  | inl before ↦ goes_further mrru below s p.0 n m before p.1
  | inr at ↦ let e : m ≡ n = omega arith in let P = λ (k : ℕ). Rules mrru below s k p.0 in (p.0, subst P e p.1, (b, p.2))
]

stops : (mrru below : ℕ) (s a b : Gathering) → Settles mrru below s a → (m : ℕ) → Rules mrru below s m b → (count : ℕ) → Rules mrru below s count a → count < m → ⊥
stops mrru below s a b p m more count rules less =
    let t = goes_further mrru below s b count m less more in
    let same : t.0 ≡ a = rules_once mrru below s t.0 a count t.1 rules in
    let P = λ (x : Gathering). Rule mrru below x t.2.0 in
    let rule : Rule mrru below a t.2.0 = subst P same t.2.1 in
    none-some t.2.0 (sym (p.rest rule.len rule.begun) ∙ rule.applies)

pub settles_once : (mrru below : ℕ) (s a b : Gathering) → Settles mrru below s a → Settles mrru below s b → a ≡ b
settles_once mrru below s a b p q = elim (cases_lt p.count q.count) [
  | inl less ↦ absurd (stops mrru below s a b p q.count q.rules p.count p.rules less)
  | inr past ↦ elim (cases_lt q.count p.count) [
    | inl more ↦ absurd (stops mrru below s b a q p.count p.rules q.count q.rules more)
    | inr same ↦
        let at : p.count ≡ q.count = omega arith in
        let P = λ (k : ℕ). Rules mrru below s k a in
        rules_once mrru below s a b q.count (subst P at p.rules) q.rules
  ]
]
