-- In a window of the number space each field has one full number.
use Rattle.std.proofs.Common.{◌≡◌, ℕ, ◌+◌, ◌-◌, ◌*◌, ◌/◌, ◌%◌, ◌<◌, ◌≤◌, suc, sym, ap, ◌∙◌, arith, inl, inr}
use Rattle.std.proofs.Math.Nat.{add-mod-mod, add-mul-mod_self_left, mul-suc, mul-le-mul_left}
use Rattle.std.proofs.lemmas.Bool.{cases_lt}
use Rattle.ppp_mp.specs.Delivered.{IsFull}

mod_once : (m a b : ℕ) → a < b → b < a + m → a % m ≡ b % m → ⊥
mod_once m a b less near same =
    let some : 0 < m = omega arith in
    let first : m * (a / m) + a % m ≡ a = omega arith in
    let second : m * (b / m) + b % m ≡ b = omega arith in
    elim (cases_lt (a / m) (b / m)) [
      | inl up ↦
          let more : m * suc (a / m) ≤ m * (b / m) = mul-le-mul_left m up in
          let split : m * suc (a / m) ≡ m * (a / m) + m = mul-suc m (a / m) in
          omega arith
      | inr down ↦ let le : m * (b / m) ≤ m * (a / m) = mul-le-mul_left m down in omega arith
    ]

pub full_once : (space least field a b : ℕ) → IsFull space least field a → IsFull space least field b → a ≡ b
full_once space least field a b p q =
    let halves : 2 * (space / 2) ≤ space = omega arith in
    let p_above = p.above in
    let p_below = p.below in
    let q_above = q.above in
    let q_below = q.below in
    elim (cases_lt a b) [
      | inl less ↦ absurd (mod_once space a b less (omega arith) (p.same ∙ sym q.same))
      | inr past ↦ elim (cases_lt b a) [
        | inl more ↦ absurd (mod_once space b a more (omega arith) (q.same ∙ sym p.same))
        | inr same ↦ omega arith
      ]
    ]

mod_reach : (m a field : ℕ) → 0 < m → (d : ℕ) × (d < m) × ((a + d) % m ≡ field % m)
mod_reach m a field some =
    let d : ℕ = (field + (m - a % m)) % m in
    let whole : m * (a / m) + a % m ≡ a = omega arith in
    let rest : a % m < m = omega arith in
    let split : m * suc (a / m) ≡ m * (a / m) + m = mul-suc m (a / m) in
    let sum : a + (field + (m - a % m)) ≡ field + m * suc (a / m) = omega arith in (
      (field + (m - a % m)) % m,
      omega arith,
      add-mod-mod a (field + (m - a % m)) m ∙ ap (λ n. n % m) sum ∙ add-mul-mod_self_left field m (suc (a / m)),
    )

pub full_some : (space half least field : ℕ) → space ≡ 2 * half → 0 < half → space ≤ least → (n : ℕ) × IsFull space least field n
full_some space half least field is some le =
    let t = mod_reach space (least - half) field (omega arith) in
    let below : t.0 < space = t.1 in
    let half_is : space / 2 ≡ half = omega arith in
    (least - half + t.0, record { same = t.2; above = omega arith; below = omega arith })
