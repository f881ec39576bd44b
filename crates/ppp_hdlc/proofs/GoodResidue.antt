-- Octets with their FCS behind them leave the good residue.
use Rattle.std.proofs.Common.{◌≡◌, ℕ, zero, suc, ◌+◌, ◌-◌, ◌*◌, ◌/◌, ◌%◌, ◌^◌, ◌<◌, ◌==◌, Bool, true, false, not, List, [], ◌∷◌, ◌++◌, length, map, replicate, refl, sym, ap, ◌∙◌, arith, append-nil, inl, inr, ◌⊎◌}
use Rattle.std.specs.Prelude.{fold}
use Rattle.std.proofs.Math.Nat.{pow-succ'}
use Rattle.std.proofs.lemmas.List.{length-map}
use Rattle.ppp_hdlc.specs.Residue.{bits, number, plus, zeros, divisor, bring_down, Residue, fcs_of}
use Rattle.ppp_hdlc.specs.Register.{taken, register_after}
use Rattle.ppp_hdlc.specs.Encoding.{with_fcs, fcs_octets}
use Rattle.ppp_hdlc.proofs.Bits.{bits-suc, bits-zero, length-bits, plus-nil, plus-cons}
use Rattle.ppp_hdlc.proofs.Division.{ahead, Residue-after, after-append, after-below, after-is}

-- a number below 2 ^ (k + 1) and its complement have other low bits, and other halves
low_complement : (k n : ℕ) → n < 2 ^ suc k → ((2 ^ suc k - 1 - n) % 2 == 1) ≡ not (n % 2 == 1)
low_complement k n below =
    let e = pow-succ' 2 k in
    elim (parity n) [
      | inl even ↦ let odd : (2 ^ suc k - 1 - n) % 2 ≡ 1 = omega (arith, e) in rw (odd, even) refl
      | inr odd ↦ let even : (2 ^ suc k - 1 - n) % 2 ≡ 0 = omega (arith, e) in rw (even, odd) refl
    ]
  where
    parity : (n : ℕ) → (n % 2 ≡ 0) ⊎ (n % 2 ≡ 1)
    parity n = grind arith

half_complement : (k n : ℕ) → n < 2 ^ suc k → (2 ^ suc k - 1 - n) / 2 ≡ 2 ^ k - 1 - n / 2
half_complement k n below = omega (arith, pow-succ' 2 k)

bits-complement : (k n : ℕ) → n < 2 ^ k → bits k (2 ^ k - 1 - n) ≡ map not (bits k n)
bits-complement zero n below = rw (bits-zero n) (bits-zero (2 ^ 0 - 1 - n))
bits-complement (suc k) n below =
    rw (bits-suc k (2 ^ suc k - 1 - n), bits-suc k n, low_complement k n below, half_complement k n below)
    (ap (λ l. not (n % 2 == 1) ∷ l) (bits-complement k (n / 2) (omega (arith, pow-succ' 2 k))))

plus-complement : (xs : List Bool) → plus xs (map not xs) ≡ replicate (length xs) true
plus-complement [] = plus-nil []
plus-complement (true ∷ xs) = plus-cons true false xs (map not xs) ∙ ap (λ l. true ∷ l) (plus-complement xs)
plus-complement (false ∷ xs) = plus-cons false true xs (map not xs) ∙ ap (λ l. true ∷ l) (plus-complement xs)

-- the bits of a number that is put together of two
bits-join : (k j high low : ℕ) → low < 2 ^ k → bits (k + j) (high * 2 ^ k + low) ≡ bits k low ++ bits j high
bits-join zero j high low below =
    let same : 0 + j ≡ j = omega arith in
    let value : high * 2 ^ 0 + low ≡ high = omega arith in
    rw (same, value, bits-zero low) refl
bits-join (suc k) j high low below =
    let same : suc k + j ≡ suc (k + j) = omega arith in
    let twice : high * 2 ^ suc k ≡ 2 * (high * 2 ^ k) = doubled high (2 ^ k) (2 ^ suc k) (pow-succ' 2 k) in
    let lowest : (high * 2 ^ suc k + low) % 2 ≡ low % 2 = omega (arith, twice) in
    let half : (high * 2 ^ suc k + low) / 2 ≡ high * 2 ^ k + low / 2 = omega (arith, twice) in
    rw (same, bits-suc (k + j) (high * 2 ^ suc k + low), bits-suc k low, lowest, half)
    (ap (λ l. (low % 2 == 1) ∷ l) (bits-join k j high (low / 2) (omega (arith, pow-succ' 2 k))))
  where
    doubled : (high a b : ℕ) → b ≡ 2 * a → high * b ≡ 2 * (high * a)
    doubled high a b e = rw e (omega arith)

-- what the register of all ones makes of sixteen zero bits
ones_and_zeros : number (fold bring_down (replicate 16 true) zeros) ≡ 0xf0b8
unfolding number bring_down zeros plus divisor
ones_and_zeros = refl

-- the register behind its own complement
complemented : (register : ℕ) → register < 2 ^ 16 → number (fold taken (bits 16 register) (bits 16 (65535 - register))) ≡ 0xf0b8
complemented register below =
    let c = bits 16 register in
    let other : bits 16 (65535 - register) ≡ map not (bits 16 register) = bits-complement 16 register below in
    let wide : length (bits 16 register) ≡ 16 = length-bits 16 register in
    let all : fold bring_down (plus (bits 16 register) (map not (bits 16 register))) zeros ≡ fold taken (bits 16 register) (map not (bits 16 register)) =
    ahead (map not (bits 16 register)) (bits 16 register) (map not (bits 16 register)) zeros wide (length-map (bits 16 register) not ∙ wide) refl in
    let ones : plus (bits 16 register) (map not (bits 16 register)) ≡ replicate 16 true = plus-complement (bits 16 register) ∙ ap (λ k. replicate k true) wide in
    ap (λ bs. number (fold taken (bits 16 register) bs)) other ∙ ap number (sym all) ∙ ap (λ l. number (fold bring_down l zeros)) ones ∙ ones_and_zeros

two_octets : (register n : ℕ) → n < 2 ^ 16 → register_after register (n % 256 ∷ n / 256 ∷ []) ≡ number (fold taken (bits 16 register) (bits 16 n))
two_octets register n below =
    let parts : n / 256 * 256 + n % 256 ≡ n = omega arith in
    after-is register (n % 256 ∷ n / 256 ∷ [])
    ∙ ap (λ bs. number (fold taken (bits 16 register) bs))
    (ap (λ l. bits 8 (n % 256) ++ l) (append-nil (bits 8 (n / 256)))
    ∙ sym (bits-join 8 8 (n / 256) (n % 256) (omega arith))
    ∙ ap (λ m. bits 16 m) parts)

pub good : (octets : List ℕ) → Residue (with_fcs octets) ≡ 0xf0b8
unfolding with_fcs fcs_octets
good octets =
    let below : register_after 0xffff octets < 2 ^ 16 = after-below 0xffff octets in
    let r : Residue octets ≡ register_after 0xffff octets = Residue-after octets in
    Residue-after (octets ++ (fcs_of octets % 256 ∷ fcs_of octets / 256 ∷ []))
    ∙ sym (after-append 0xffff octets (fcs_of octets % 256 ∷ fcs_of octets / 256 ∷ []))
    ∙ ap (λ s. register_after (register_after 0xffff octets) ((65535 - s) % 256 ∷ (65535 - s) / 256 ∷ [])) r
    ∙ two_octets (register_after 0xffff octets) (65535 - register_after 0xffff octets) (omega arith)
    ∙ complemented (register_after 0xffff octets) below
